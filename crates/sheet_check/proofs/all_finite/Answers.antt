-- The chain tests each number by its place in the list. Assumes nothing.
use Rattle.std.proofs.Common.{rules, tests, arith, ◌∙◌}
use Rattle.std.proofs.lemmas.Iterator.{YieldsList-from_range}
use Rattle.std.proofs.lemmas.Iterator.Search.{all_from_yields_List}
use Rattle.sheet_check.proofs.Numbering.{finite_at, singles_ranged}
use Rattle.sheet_check.proofs.all_finite.Goals as goal

pub returns : goal.returns
returns c =
    let a = c.args in
    all_from_yields_List (finite_at a.s.now a.from) _ _ _ c.all.ensures.ran (YieldsList-from_range 0 a.n a.n (cc) (omega arith)) (λ x b q k. search (rules, tests)) ∙ singles_ranged a.s.now a.from 0 a.n a.from (omega arith)
