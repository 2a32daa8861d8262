-- Whether what is kept of an item is within the limits, and what it is worth, by the tests of the code. Assumes nothing.
use Prim.Native.Nat.{ℕ, ◌+◌, ◌*◌, ◌^◌, ◌≤◌, ◌<◌}
use mathlib.Core.Path.{◌≡◌, sym, ap, ◌∙◌, subst}
use mathlib.Core.Bool.{true, false, ◌&&◌}
use lib.Dec.{T, leb, ltb, leb→le, ltb→lt}
use lib.Ieee.{binary64, round, to_bits, of_bits}
use lib.Ieee.Fits.{and_l, and_r, round-fits}
use lib.Ieee.Bits.{of_bits-to_bits}
use Rattle.num.specs.Constants.{plus_zero}
use Rattle.num.specs.Means.{double_of}
use Rattle.decimal.specs.Means.{limit, raised, lowered, in_limits_held, double_held, value_held}
use Rattle.decimal.specs.declared.Decimal.{Decimal}

-- what the three tests of the limits say of a number without its power, and of the power, which is u less w
pub record Within (n u w : ℕ) : Type 0 where
  pub below : n < limit
  pub up : u ≤ w + 22
  pub down : w ≤ u + 22

pub within : (n u w : ℕ) → (ltb n limit && (leb u (w + 22) && leb w (u + 22))) ≡ true → Within n u w
within n u w e =
    let h : T (ltb n limit && (leb u (w + 22) && leb w (u + 22))) = subst T (sym e) tt in
    let p : T (leb u (w + 22) && leb w (u + 22)) = and_r (ltb n limit) (leb u (w + 22) && leb w (u + 22)) h in
    record {
      below = ltb→lt n limit (and_l (ltb n limit) (leb u (w + 22) && leb w (u + 22)) h);
      up = leb→le u (w + 22) (and_l (leb u (w + 22)) (leb w (u + 22)) p);
      down = leb→le w (u + 22) (and_r (leb u (w + 22)) (leb w (u + 22)) p);
    }

module _ (d : Decimal) where
  pub held_within : in_limits_held d ≡ true → (d.digits < limit) × (raised d.power ≤ 22) × (lowered d.power ≤ 22)
  unfolding in_limits_held
  held_within e =
      let a = ltb d.digits limit in
      let b = leb (raised d.power) 22 in
      let c = leb (lowered d.power) 22 in
      let h : T (a && (b && c)) = subst T (sym e) tt in
      let p : T (b && c) = and_r a (b && c) h in
      (ltb→lt d.digits limit (and_l a (b && c) h), leb→le (raised d.power) 22 (and_l b c p), leb→le (lowered d.power) 22 (and_r b c p))

  pub value_refused : in_limits_held d ≡ false → plus_zero ≡ value_held d
  unfolding value_held
  value_refused e = rw e

  -- an f64 is read back from its bits
  pub value_is : (b : ℕ) → in_limits_held d ≡ true → b ≡ to_bits binary64 (double_held d) → double_of b ≡ value_held d
  unfolding value_held double_of double_held
  value_is b e f =
      let n = d.digits * 10 ^ raised d.power in
      let c = 10 ^ lowered d.power in
      rw (e, ap (of_bits binary64) f ∙ of_bits-to_bits binary64 (round binary64 d.minus n c) (round-fits binary64 d.minus n c))
