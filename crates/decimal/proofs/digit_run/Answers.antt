-- Invariant: the digits are those that were passed and the rest, and their number, held, is that of the rest after `value` (`Going`). Assumes nothing.
use Rattle.decimal.proofs.Running.{digit_same, going_step}
use Rattle.decimal.proofs.Windows.{seen_length}
use Rattle.decimal.specs.Grammar.{is_digit}
use mathlib.Core.Path.{sym, ◌∙◌, ap}
use native.Mathlib.Omega.{arith}
use Rattle.decimal.proofs.digit_run.Goals as goal

pub loop-len-preserved : goal.loop-len-preserved
loop-len-preserved c =
    going_step _ _ _ _ c.loop-len.invariant _ (omega (arith, seen_length c.args.text))
    (ap is_digit (sym c.get-b.ensures) ∙ sym (digit_same c.get-b.result) ∙ sym c.is_ascii_digit.ensures.value ∙ c.if-not-is_ascii_digit.false)
    (rw c.get-b.ensures at c.grown-value.ensures.0)
