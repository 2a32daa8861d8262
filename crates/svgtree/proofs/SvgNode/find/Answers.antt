-- The search finds the first attribute with the id. Assumes nothing.
use Rattle.std.proofs.Common.{rules, tests, eqb}
use Rattle.std.proofs.lemmas.Iterator.Consumers.{YieldsList-from_first}
use Rattle.std.proofs.lemmas.Iterator.Search.{find_from_yields_List}
use Rattle.svgtree.specs.Listed.{read_of}
use Rattle.svgtree.proofs.FirstWith.{found_of}
use Rattle.svgtree.proofs.SvgNode.find.Goals as goal

pub returns : goal.returns
returns c =
    let s = c.args.self.bytes.now in
    let at = c.args.self.at in
    let first = found_of s c.args.id at c.find.result
    (find_from_yields_List (λ a. eqb a.id c.args.id) _ _ c.find.result c.find.ensures.ran (YieldsList-from_first (λ a. a) (λ left. left) (read_of s at) c.attributes.ensures) (λ x b q k. search (rules, tests))) in
    search (rules, first)
