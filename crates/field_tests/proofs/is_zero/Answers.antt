-- The chain tests each place of the range. Assumes nothing.
use Rattle.std.proofs.Common.{rules, tests, arith, ◌+◌, ◌∙◌}
use Rattle.std.proofs.lemmas.Iterator.{YieldsList-from_range}
use Rattle.std.proofs.lemmas.Iterator.Search.{all_from_yields_List}
use Rattle.field_tests.proofs.Zeros.{zero_at, zeros_ranged}
use Rattle.field_tests.proofs.is_zero.Goals as goal

pub returns : goal.returns
returns c =
    let a = c.args in
    all_from_yields_List (zero_at a.s.now) _ _ _ c.all.ensures.ran (YieldsList-from_range a.from (a.from + a.n) a.n (cc) (omega arith)) (λ x b q k. search (rules, tests)) ∙ zeros_ranged a.s.now a.from a.n
