-- The chain tests each record by its number. Assumes nothing.
use Rattle.std.proofs.Common.{rules, tests, arith, ◌∙◌}
use Rattle.std.proofs.lemmas.Iterator.{YieldsList-from_range}
use Rattle.std.proofs.lemmas.Iterator.Search.{all_from_yields_List}
use Rattle.svgtree.specs.Parse.{count_of}
use Rattle.sheet_layout.proofs.Following.{record_ok_at, records_ranged}
use Rattle.sheet_layout.proofs.records_ok.Goals as goal

pub returns : goal.returns
returns c =
    let s = c.args.s.now in
    all_from_yields_List (record_ok_at s) _ _ _ c.all.ensures.ran (YieldsList-from_range 0 (count_of s) (count_of s) (cc) (omega arith)) (λ x b q k. search (rules, tests)) ∙ records_ranged s 0 (count_of s)
