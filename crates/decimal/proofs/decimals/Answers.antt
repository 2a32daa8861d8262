-- The digits after the point continue the number before it, and there is one at least. Assumes nothing.
use Rattle.decimal.proofs.Parts.{decimals_value, decimals_some}
use Rattle.decimal.specs.Means.{held_in}
use mathlib.Core.Path.{ap, ◌∙◌}
use native.Mathlib.Omega.{arith}
use Rattle.decimal.proofs.decimals.Goals as goal

pub returns : goal.returns
returns c =
    λ ds e.
    let d = c.digit_run-run.ensures.digits in
    let h = rw c.behind.ensures.0 at c.scale.ensures in
    h _ (decimals_value c.args.minus ds _ _ _ _ d e) ∙ ap held_in (decimals_some c.args.minus ds _ _ _ _ d (omega arith))
