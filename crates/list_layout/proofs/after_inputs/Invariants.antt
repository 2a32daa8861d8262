-- What is left after all inputs is what is left after those still to come.
use Rattle.std.proofs.Common.{◌≡◌, ◌-◌, Some}
use Rattle.list_read.specs.Layout.{exactly}
use Rattle.list_layout.specs.After.{after_inputs}
use Rattle.list_layout.proofs.after_inputs.Given as goal

abbrev pub invariant-loop : goal.invariant-loop
invariant-loop l = after_inputs l.form (exactly l.n) (Some l.fn.s) ≡ after_inputs l.form (exactly (l.n - l.counter)) (Some l.s)
