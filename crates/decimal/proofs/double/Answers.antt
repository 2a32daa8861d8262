-- Both operands are exact, so the one operation rounds the true value: a product where the power is not below 0, else a quotient. Assumes nothing.
use mathlib.Core.Path.{◌≡◌, ap, ◌∙◌}
use mathlib.Core.Bool.{false}
use native.Mathlib.Omega.{arith}
use Prim.Native.Nat.{ℕ, ◌^◌, ◌≤◌, ◌<◌}
use lib.IntN.{ℤ, pos, negsuc}
use lib.Ieee.{Float, fin, binary64, mul, div}
use mir.Syntax.{w64}
use mir.Val.{SFits}
use mir.ValLaws.{to_z-of_z}
use Rattle.decimal.proofs.Held.{held_within}
use Rattle.decimal.proofs.Powers.{times_power, through_power}
use Rattle.decimal.specs.Means.{double_held, raised, lowered}
use Rattle.decimal.proofs.double.Goals as goal

ten : (x : Float) (a b : ℕ) → x ≡ fin false (5 ^ a) (pos a) → a ≡ b → x ≡ fin false (5 ^ b) (pos b)
ten x a b e f = e ∙ ap (λ (k : ℕ). fin false (5 ^ k) (pos k)) f

small : (n : ℕ) → n ≤ 22 → n < 9223372036854775808
small n h = omega arith

-- a power within the limits is an i64
fits : (z : ℤ) → raised z ≤ 22 → lowered z ≤ 22 → SFits w64 z
fits (pos n) h k = record { sfits = small n h }
fits (negsuc n) h k = record { sfits = small n (omega arith) }

pub returns-then-d-ge0 : goal.returns-then-d-ge0
unfolding double_held
returns-then-d-ge0 c =
    let h = held_within c.args.d c.requires in
    let e = to_z-of_z w64 c.args.d.power (fits c.args.d.power h.1 h.2) in
    ap (mul binary64 c.signed_double-x.result) (ten _ _ _ c.power_of_ten-ten.ensures (rw e at c.unsigned_abs.ensures.value))
    ∙ times_power c.args.d.minus c.args.d.digits c.args.d.power _ c.signed_double-x.ensures (rw e at c.if-d-ge0.true)

pub returns-else-d-ge0 : goal.returns-else-d-ge0
unfolding double_held
returns-else-d-ge0 c =
    let h = held_within c.args.d c.requires in
    let e = to_z-of_z w64 c.args.d.power (fits c.args.d.power h.1 h.2) in
    ap (div binary64 c.signed_double-x.result) (ten _ _ _ c.power_of_ten-ten.ensures (rw e at c.unsigned_abs.ensures.value))
    ∙ through_power c.args.d.minus c.args.d.digits c.args.d.power _ c.signed_double-x.ensures (rw e at c.if-d-ge0.false)
