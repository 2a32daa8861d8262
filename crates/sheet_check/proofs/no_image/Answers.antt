-- The chain tests each node. Assumes nothing.
use Rattle.std.proofs.Common.{rules, tests, ◌∙◌}
use Rattle.std.proofs.lemmas.Iterator.Consumers.{YieldsList-from_first}
use Rattle.std.proofs.lemmas.Iterator.Search.{all_from_yields_List}
use Rattle.svgtree.specs.Nodes.{node_of, handles_from}
use Rattle.svgtree.specs.Parse.{count_of, sheet_of}
use Rattle.sheet_check.specs.Refusals.{is_no_image, no_image}
use Rattle.sheet_check.proofs.Numbering.{nodes_tested}
use Rattle.sheet_check.proofs.no_image.Goals as goal

pub returns : goal.returns
unfolding no_image sheet_of
returns c =
    let s = c.args.s in
    all_from_yields_List (λ n. is_no_image (node_of n)) _ _ _ c.all.ensures.ran (YieldsList-from_first (λ n. n) (λ left. left) (handles_from s 0 (count_of s.now)) (cc)) (λ x b q k. search (rules, tests)) ∙ nodes_tested is_no_image s 0 (count_of s.now)
