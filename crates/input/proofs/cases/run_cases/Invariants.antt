-- Each turn counts one case.
use Rattle.std.proofs.Common.{◌≡◌}
use Rattle.input.proofs.cases.run_cases.Given as goal

abbrev pub invariant-loop : goal.invariant-loop
invariant-loop g l = goal.F-IsAlwaysCallable g l.next × (g.T.Tally.cases l.tally ≡ l.counter)
