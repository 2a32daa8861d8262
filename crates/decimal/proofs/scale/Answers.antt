-- At the end there is no exponent. Else an `e` must stand there, then a sign or none, then one digit at least, and then the end. Assumes nothing.
use Rattle.std.specs.Prelude.{Option, Some}
use Rattle.decimal.specs.declared.Decimal.{Decimal}
use Rattle.decimal.proofs.Scales.{scale_end, scale_is}
use Rattle.decimal.proofs.Signs.{minus_is}
use Rattle.decimal.proofs.Windows.{seen_length}
use mathlib.Core.Path.{◌≡◌, sym, ◌∙◌, ap}
use mathlib.Core.Bool.{Bool}
use Prim.Native.Nat.{ℕ}
use lib.IntN.{ℤ}
use mir.Syntax.{w64}
use mir.ValLaws.{to_z-of_z}
use native.Mathlib.Omega.{arith}
use Rattle.decimal.proofs.scale.Goals as goal

with_power : (m : Bool) (v : ℕ) (y z : ℤ) → y ≡ z → ◌≡◌ {A = Option Decimal} (Some (record { minus = m; digits = v; power = y })) (Some (record { minus = m; digits = v; power = z }))
with_power m v y z e = ap (λ (x : ℤ). Some (record { minus = m; digits = v; power = x })) e

pub returns-in_default : goal.returns-in_default
returns-in_default c =
    λ ds e. with_power _ _ _ _ (to_z-of_z w64 c.power.result (record { sfits = c.power.type_inv }) ∙ c.power.ensures) ∙ scale_end _ _ _ _ ds (cc) e

pub returns : goal.returns
returns c =
    λ ds e.
    with_power _ _ _ _ (to_z-of_z w64 c.power-2.result (record { sfits = c.power-2.type_inv }) ∙ c.power-2.ensures)
    ∙ scale_is _ _ _ _ ds _ (cc) _ _ c.behind-exponent.ensures.0 c.unsigned-size.ensures _ _ (sym c.is_e.ensures ∙ c.if-not-is_e.false) c.digit_run-run.ensures.digits _
    (omega arith) (omega (arith, seen_length c.unsigned-size.result)) e (c.starts_with.ensures ∙ minus_is _)
