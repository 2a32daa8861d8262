-- The exponent and the end of an item's word: what the code reads there, and what the grammar says of it. Assumes nothing.
use Rattle.decimal.specs.declared.Decimal.{Decimal}
use Rattle.std.specs.Prelude.{None, Option, Some}
use Prim.Native.Nat.{ℕ, ◌≤◌, ◌<◌, min}
use native.Mathlib.Nat.{suc-ne-zero, lt_irrefl}
use native.Mathlib.Omega.{arith}
use mathlib.Core.Path.{◌≡◌, refl, ap, ◌∙◌}
use mathlib.Core.Bool.{Bool, true, false}
use mathlib.Core.List.{List, [], ◌∷◌}
use lib.ListN.{length, drop}
use Rattle.std.specs.List.{slice_get}
use Rattle.std.proofs.Common.{length-drop}
use Rattle.decimal.specs.Grammar.{is_e, unsigned, negative, leading_digits, power, scaled}
use Rattle.decimal.specs.Limits.{whole, whole_from}
use lib.IntN.{pos, ◌-ℤ◌}
use Rattle.decimal.specs.Means.{limit, held_in, signed_exponent, DigitsOf}

module _ (m : Bool) (ds : List ℕ) (k : ℕ) (l : Bool) where
  power_none : (es rest : List ℕ) → length es ≡ 0 → power m ds k l es rest ≡ None
  unfolding power
  power_none [] rest e = refl
  power_none (x ∷ es) rest e = absurd (suc-ne-zero (length es) e)

  power_more : (es rest : List ℕ) → 0 < length rest → power m ds k l es rest ≡ None
  unfolding power
  power_more [] rest h = refl
  power_more (x ∷ es) [] h = absurd (lt_irrefl 0 h)
  power_more (x ∷ es) (b ∷ t) h = refl

  power_is : (es rest : List ℕ) → 0 < length es → length rest ≡ 0 → power m ds k l es rest ≡ Some (record { minus = m; digits = ds; decimals = k; exponent_minus = l; exponent = es })
  unfolding power
  power_is [] rest h e = absurd (lt_irrefl 0 h)
  power_is (x ∷ es) [] h e = refl
  power_is (x ∷ es) (b ∷ t) h e = absurd (suc-ne-zero (length t) e)

empty_is : (t : List ℕ) → slice_get t 0 ≡ None → t ≡ []
empty_is [] e = refl
empty_is (x ∷ t) e = cc

first_is : (t : List ℕ) (b : ℕ) → slice_get t 0 ≡ Some b → t ≡ b ∷ drop 1 t
first_is [] b e = cc
first_is (x ∷ t) b e = let f : x ≡ b = cc in ap (λ (y : ℕ). y ∷ t) f

-- a number's parts as the code has them
abbrev pub parts : Bool → ℕ → ℕ → Bool → ℕ → Option Decimal
parts m v k l e = Some (record { minus = m; digits = v; power = signed_exponent l e -ℤ pos k })

module _ (t : List ℕ) (m : Bool) (v k : ℕ) (ds : List ℕ) where
  pub scale_end : slice_get t 0 ≡ None → v ≡ min (whole ds) limit → parts m v k false 0 ≡ held_in (scaled m ds k t)
  unfolding scaled whole_from
  scale_end z e = rw (empty_is t z) (ap (λ (x : ℕ). parts m x k false 0) e)

  module _ (b : ℕ) (f : slice_get t 0 ≡ Some b) where
    pub scale_other : is_e b ≡ false → None ≡ held_in (scaled m ds k t)
    unfolding scaled
    scale_other h = rw (first_is t b f, h)

    -- the exponent u after its sign, of which n digits are read
    module _ (r u : List ℕ) (p : r ≡ drop 1 t) (q : u ≡ unsigned r) (n x : ℕ) (h : is_e b ≡ true) (d : DigitsOf u 0 n x) where
      open_e : scaled m ds k t ≡ power m ds k (negative r) (leading_digits u) (drop n u)
      unfolding scaled
      open_e = rw (first_is t b f, h, ← p, ← q, d.next)

      pub scale_none : n ≡ 0 → None ≡ held_in (scaled m ds k t)
      scale_none z = rw (open_e, power_none m ds k (negative r) (leading_digits u) (drop n u) (d.many ∙ z))

      pub scale_more : n < length u → None ≡ held_in (scaled m ds k t)
      scale_more z =
          let o : 0 < length (drop n u) = omega (arith, length-drop n u) in
          rw (open_e, power_more m ds k (negative r) (leading_digits u) (drop n u) o)

      pub scale_is : (l : Bool) → 0 < n → length u ≤ n → v ≡ min (whole ds) limit → l ≡ negative r → parts m v k l x ≡ held_in (scaled m ds k t)
      scale_is l z y e g =
          let o : 0 < length (leading_digits u) = omega (arith, d.many) in
          let w : length (drop n u) ≡ 0 = omega (arith, length-drop n u) in
          rw (open_e, power_is m ds k (negative r) (leading_digits u) (drop n u) o w)
          (ap (λ (y : ℕ). parts m y k l x) e ∙ ap (λ (y : Bool). parts m (min (whole ds) limit) k y x) g
          ∙ ap (λ (y : ℕ). parts m (min (whole ds) limit) k (negative r) y) d.number)
