-- The bits of the f32 nearest to an f64, without the sign, by the f64's exponent's field x and fraction t. Assumes nothing.
use mathlib.Core.Path.{◌≡◌, refl, sym, ap, ◌∙◌, subst}
use mathlib.Core.Logic.{inl, inr}
use Prim.Native.Nat.{ℕ, zero, suc, ◌+◌, ◌-◌, ◌*◌, ◌/◌, ◌%◌, ◌^◌, ◌≤◌, ◌<◌, compare}
use native.Mathlib.Nat.{lt_of_lt_of_le, le_trans, zero-add, zero-lt-suc, le-div_iff_mul-le, div-lt_iff_lt-mul, mul-le-mul_left}
use native.Mathlib.Omega.{arith}
use mathlib.Core.Bool.{Bool, true, false, not, cond}
use lib.Dec.{T, leb, leb→le, nleb→lt, lit≤, eqb, eqb→eq, not_T}
use lib.Pow.{pow_pos, pow_mono}
use lib.Ieee.{Float, nan, inf, fin, binary32, binary64, up, down, round, units, of_fields, of_bits, to_bits}
use lib.Ieee.Bits.{is_false}
use lib.Ieee.Fits.{down_pos, nearest-le}
use lib.Ieee.Exact.{HasValue}
use lib.Ieee.Nearest.{closest, nearest-ge}
use lib.Ieee.Scale.{round_same}
use Rattle.num.proofs.Laws.{by_le}
use Rattle.num.proofs.Patterns.{units_bits, units_over, inf_bits, round_normal, round_low, fields_low, fields_normal, closest_zero, of_bits_fields}
use Rattle.num.specs.Narrowed.{narrowed}

-- `narrowed` sees only the value
pub narrowed_value : (x : Float) (s : Bool) (a c : ℕ) → 0 < c → HasValue x s a c → narrowed x ≡ round binary32 s a c
unfolding narrowed
narrowed_value nan s a c C h = absurd h
narrowed_value (inf t) s a c C h = absurd h
narrowed_value (fin t m e) s a c C h = ap (λ (b : Bool). round binary32 b (m * up e) (down e)) h.0 ∙ round_same binary32 s (m * up e) (down e) a c (down_pos e) C h.1

-- what is to be shown of r
abbrev pub Bits : ℕ → ℕ → ℕ → Type 0
Bits x t r = (s : Bool) → to_bits binary32 (narrowed (of_fields binary64 s x t)) ≡ cond s 2147483648 0 + r

-- and its bound
abbrev pub Done : ℕ → ℕ → ℕ → Type 0
Done x t r = (r ≤ 2139095040) × Bits x t r

module _ (t : ℕ) (H : t < 4503599627370496) where
  lead_lt : 4503599627370496 + t < 9007199254740992
  lead_lt = omega arith

  lead_ge : 4503599627370496 ≤ 4503599627370496 + t
  lead_ge = omega arith

  -- a normal f64
  normal_value : (s : Bool) (j : ℕ) → suc j < 2047 → narrowed (of_fields binary64 s (suc j) t) ≡ round binary32 s ((4503599627370496 + t) * 2 ^ j) (2 ^ 1074)
  normal_value s j h = narrowed_value (of_fields binary64 s (suc j) t) s ((4503599627370496 + t) * 2 ^ j) (2 ^ 1074) (pow_pos 1074) (fields_normal binary64 s j t h)

  -- what is kept has 24 digits at most
  kept_le : (d : ℕ) → 29 ≤ d → closest (4503599627370496 + t) (2 ^ d) ≤ 16777216
  kept_le d D =
      let g = 4503599627370496 + t in
      le_trans (nearest-le (g / 2 ^ d) (compare (g % 2 ^ d * 2) (2 ^ d))) ((div-lt_iff_lt-mul (pow_pos d)).1 (lt_of_lt_of_le lead_lt (mul-le-mul_left 16777216 (pow_mono D))))

  kept_ge : 8388608 ≤ closest (4503599627370496 + t) (2 ^ 29)
  kept_ge =
      let g = 4503599627370496 + t in
      le_trans ((le-div_iff_mul-le (pow_pos 29)).1 lead_ge) (nearest-ge (g / 2 ^ 29) (compare (g % 2 ^ 29 * 2) (2 ^ 29)))

  -- 29 digits and more are dropped: the result is subnormal or zero
  low_at : (j d : ℕ) → j + d ≡ 925 → 29 ≤ d → Bits (suc j) t (closest (4503599627370496 + t) (2 ^ d))
  low_at j d e D s =
      let q = closest (4503599627370496 + t) (2 ^ d) in
      ap (to_bits binary32) (normal_value s j (in_range j d e) ∙ round_low s (4503599627370496 + t) j d lead_lt e D)
      ∙ units_bits s q 0 (lit≤ tt) (kept_le d D) (inl refl)
      ∙ ap (λ (z : ℕ). cond s 2147483648 0 + z) (zero-add q)
    where
      in_range : (j d : ℕ) → j + d ≡ 925 → suc j < 2047
      in_range j d e = omega arith

  pub low : (x : ℕ) → 0 < x → x < 897 → Bits x t (closest (4503599627370496 + t) (2 ^ (926 - x)))
  low x p h = subst (λ (z : ℕ). Bits z t (closest (4503599627370496 + t) (2 ^ (926 - x)))) (back x p) (low_at (x - 1) (926 - x) (all x p h) (much x h))
    where
      back : (x : ℕ) → 0 < x → suc (x - 1) ≡ x
      back x p = omega arith

      all : (x : ℕ) → 0 < x → x < 897 → x - 1 + (926 - x) ≡ 925
      all x p h = omega arith

      much : (x : ℕ) → x < 897 → 29 ≤ 926 - x
      much x h = omega arith

  twice_lt : (g : ℕ) → g < 9007199254740992 → g * 2 < 2 ^ 54
  twice_lt g h = omega arith

  -- all digits are dropped, and the half is not reached
  pub tiny : (x : ℕ) → x < 873 → Bits x t 0
  tiny zero h s =
      ap (to_bits binary32)
      (narrowed_value (of_fields binary64 s 0 t) s (t * 2 ^ 0) (2 ^ 1074) (pow_pos 1074) (fields_low binary64 s t)
      ∙ round_low s t 0 925 (small t H) refl (lit≤ tt)
      ∙ ap (λ (q : ℕ). units binary32 s q 0) (closest_zero t (2 ^ 925) (lt_of_lt_of_le (twice_lt t (small t H)) (pow_mono {i = 54} {j = 925} (lit≤ tt)))))
      ∙ units_bits s 0 0 (lit≤ tt) (lit≤ tt) (inl refl)
    where
      small : (t : ℕ) → t < 4503599627370496 → t < 9007199254740992
      small t H = omega arith
  tiny (suc j) h s =
      subst (λ (q : ℕ). Bits (suc j) t q) (closest_zero (4503599627370496 + t) (2 ^ (926 - suc j)) (lt_of_lt_of_le (twice_lt (4503599627370496 + t) lead_lt) (pow_mono (much j h)))) (low (suc j) (zero-lt-suc j) (less j h)) s
    where
      much : (j : ℕ) → suc j < 873 → 54 ≤ 926 - suc j
      much j h = omega arith

      less : (j : ℕ) → suc j < 873 → suc j < 897
      less j h = omega arith

  pub low_le : (x : ℕ) → x < 897 → closest (4503599627370496 + t) (2 ^ (926 - x)) ≤ 2139095040
  low_le x h = le_trans (kept_le (926 - x) (much x h)) (lit≤ tt)
    where
      much : (x : ℕ) → x < 897 → 29 ≤ 926 - x
      much x h = omega arith

  -- 29 digits are dropped: a normal result, or an infinity by a carry
  pub normal : (x : ℕ) → 897 ≤ x → x < 1151 → Bits x t ((x - 897) * 8388608 + closest (4503599627370496 + t) (2 ^ 29))
  normal x p h s =
      let k = x - 897 in
      let q = closest (4503599627370496 + t) (2 ^ 29) in
      ap (λ (z : ℕ). to_bits binary32 (narrowed (of_fields binary64 s z t))) (back x p)
      ∙ ap (to_bits binary32) (normal_value s (896 + k) (in_range x p h) ∙ round_normal s (4503599627370496 + t) k lead_ge lead_lt)
      ∙ units_bits s q k (few x h) (kept_le 29 (lit≤ tt)) (inr kept_ge)
    where
      back : (x : ℕ) → 897 ≤ x → x ≡ suc (896 + (x - 897))
      back x p = omega arith

      in_range : (x : ℕ) → 897 ≤ x → x < 1151 → suc (896 + (x - 897)) < 2047
      in_range x p h = omega arith

      few : (x : ℕ) → x < 1151 → x - 897 ≤ 253
      few x h = omega arith

  pub normal_le : (x : ℕ) → 897 ≤ x → x < 1151 → (x - 897) * 8388608 + closest (4503599627370496 + t) (2 ^ 29) ≤ 2139095040
  normal_le x p h = go (closest (4503599627370496 + t) (2 ^ 29)) (kept_le 29 (lit≤ tt))
    where
      go : (q : ℕ) → q ≤ 16777216 → (x - 897) * 8388608 + q ≤ 2139095040
      go q l = omega arith

  -- too large
  over : (x : ℕ) → 1151 ≤ x → x < 2047 → Bits x t 2139095040
  over x p h s =
      let k = x - 897 in
      let q = closest (4503599627370496 + t) (2 ^ 29) in
      ap (λ (z : ℕ). to_bits binary32 (narrowed (of_fields binary64 s z t))) (back x p)
      ∙ ap (to_bits binary32) (normal_value s (896 + k) (in_range x p h) ∙ round_normal s (4503599627370496 + t) k lead_ge lead_lt ∙ units_over s q k (many x p) kept_ge)
      ∙ inf_bits s
    where
      back : (x : ℕ) → 1151 ≤ x → x ≡ suc (896 + (x - 897))
      back x p = omega arith

      in_range : (x : ℕ) → 1151 ≤ x → x < 2047 → suc (896 + (x - 897)) < 2047
      in_range x p h = omega arith

      many : (x : ℕ) → 1151 ≤ x → 254 ≤ x - 897
      many x p = omega arith

  -- or an infinity already
  infinite : t ≡ 0 → Bits 2047 t 2139095040
  unfolding of_fields narrowed
  infinite e s = ap (λ (z : ℕ). to_bits binary32 (narrowed (of_fields binary64 s 2047 z))) e ∙ inf_bits s

  pub large : (x : ℕ) → 1151 ≤ x → x * 4503599627370496 + t ≤ 9218868437227405312 → Bits x t 2139095040
  large x p h = elim (by_le 2047 x) [
    | inl l ↦ let e : x ≡ 2047 = omega arith in subst (λ (z : ℕ). Bits z t 2139095040) (sym e) (infinite (omega arith))
    | inr l ↦ over x p l
  ]

-- ---- the whole pattern
fields_of : (b : ℕ) → b % 9223372036854775808 / 4503599627370496 ≡ b / 4503599627370496 % 2048
fields_of b = omega arith

sign_of : (b : ℕ) → b < 18446744073709551616 → cond (leb 9223372036854775808 b) 2147483648 0 ≡ b / 9223372036854775808 * 2147483648
sign_of b h = go (leb 9223372036854775808 b) (leb→le 9223372036854775808 b) (nleb→lt 9223372036854775808 b)
  where
    go : (t : Bool) → (T t → 9223372036854775808 ≤ b) → (T (not t) → b < 9223372036854775808) → cond t 2147483648 0 ≡ b / 9223372036854775808 * 2147483648
    go true p q = let l : 9223372036854775808 ≤ b = p tt in omega arith
    go false p q = let l : b < 9223372036854775808 = q tt in omega arith

-- all ones in the exponent's field
fields_ones : (s : Bool) (t : ℕ) → of_fields binary64 s 2047 t ≡ cond (eqb t 0) (inf s) nan
unfolding of_fields
fields_ones s t = refl

bits_nan : (b : ℕ) → b % 9223372036854775808 / 4503599627370496 ≡ 2047 → (b % 4503599627370496 ≡ 0 → ⊥) → of_bits binary64 b ≡ nan
bits_nan b e d =
    let s = leb 9223372036854775808 b in
    let t = b % 4503599627370496 in
    of_bits_fields binary64 b ∙ ap (λ (x : ℕ). of_fields binary64 s x t) e ∙ fields_ones s t
    ∙ ap (λ (z : Bool). cond z (inf s) nan) (is_false (eqb t 0) (not_T (eqb t 0) (λ u. d (eqb→eq t 0 u))))

nan_bits_lem : to_bits binary32 (narrowed nan) ≡ 2143289344
unfolding narrowed to_bits
nan_bits_lem = refl

pub narrowed_nan : (b : ℕ) → 9218868437227405312 < b % 9223372036854775808 → 2143289344 ≡ to_bits binary32 (narrowed (of_bits binary64 b))
narrowed_nan b h = sym (ap (λ (z : Float). to_bits binary32 (narrowed z)) (bits_nan b (omega arith) (λ (e : b % 4503599627370496 ≡ 0). omega arith)) ∙ nan_bits_lem)

pub whole : (b r : ℕ) → b < 18446744073709551616 → Bits (b / 4503599627370496 % 2048) (b % 4503599627370496) r → b / 9223372036854775808 * 2147483648 + r ≡ to_bits binary32 (narrowed (of_bits binary64 b))
whole b r h k =
    ap (λ (z : ℕ). z + r) (sym (sign_of b h))
    ∙ sym (k (leb 9223372036854775808 b))
    ∙ ap (λ (z : ℕ). to_bits binary32 (narrowed (of_fields binary64 (leb 9223372036854775808 b) z (b % 4503599627370496)))) (sym (fields_of b))
    ∙ ap (λ (z : Float). to_bits binary32 (narrowed z)) (sym (of_bits_fields binary64 b))
