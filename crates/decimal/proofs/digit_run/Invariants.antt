use Rattle.decimal.proofs.Running.{Going}
use Rattle.decimal.specs.Windows.{seen}
use Rattle.decimal.proofs.digit_run.Given as goal

abbrev pub invariant-loop-len : goal.invariant-loop-len
invariant-loop-len l = Going (seen l.text) l.v l.len l.value
