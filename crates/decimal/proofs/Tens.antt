-- A whole number times or through a power of ten, in f64: both are exact, so the one operation rounds the true value. Assumes nothing.
use Prim.Native.Nat.{ℕ, zero, suc, ◌*◌, ◌^◌, ◌≤◌, ◌<◌}
use native.Mathlib.Nat.{mul-one, mul_assoc, mul_comm, mul_right_comm, mul-pos, pow-suc, one-le-pow}
use native.Mathlib.Omega.{arith}
use mathlib.Core.Path.{◌≡◌, refl, sym, ap, ◌∙◌}
use mathlib.Core.Bool.{Bool, true, false, not, cond}
use lib.IntN.{pos}
use lib.Dec.{eqb}
use lib.Pow.{pow_pos}
use borrow.Author.Tests.{ne_eqb}
use lib.Ieee.{Float, nan, inf, fin, binary64, unlike, up, down, round, neg, mul, div, of_int}
use lib.Ieee.Fits.{down_pos}
use lib.Ieee.Exact.{HasValue}
use lib.Ieee.Back.{round_whole}
use lib.Ieee.Scale.{round_same}

pub tens : (p : ℕ) → 10 ^ p ≡ 5 ^ p * 2 ^ p
tens zero = refl
tens (suc p) =
    pow-suc 10 p ∙ ap (λ (x : ℕ). x * 10) (tens p) ∙ split (5 ^ p) (2 ^ p)
    ∙ sym (ap (λ (x : ℕ). x * 2 ^ suc p) (pow-suc 5 p) ∙ ap (λ (x : ℕ). 5 ^ p * 5 * x) (pow-suc 2 p))
  where
    split : (a b : ℕ) → a * b * 10 ≡ a * 5 * (b * 2)
    split a b = mul_assoc a b 10 ∙ ap (λ (x : ℕ). a * x) (mul_comm b 10 ∙ mul_assoc 5 2 b ∙ ap (λ (x : ℕ). 5 * x) (mul_comm 2 b)) ∙ sym (mul_assoc a 5 (b * 2))

pub ten_pos : (p : ℕ) → 0 < 10 ^ p
ten_pos p = one-le-pow p 10 (omega arith)

five_pos : (p : ℕ) → 0 < 5 ^ p
five_pos p = one-le-pow p 5 (omega arith)

plus_sign : (s : Bool) → unlike s false ≡ s
plus_sign true = refl
plus_sign false = refl

-- n as a float
pub whole_plus : (n : ℕ) → n < 1000000000000000 → HasValue (of_int binary64 (pos n)) false n 1
unfolding of_int
whole_plus n h = round_whole binary64 false n (below n h)
  where
    below : (n : ℕ) → n < 1000000000000000 → n ≤ 9007199254740992
    below n h = omega arith

pub whole_minus : (x : Float) (a c : ℕ) → HasValue x false a c → HasValue (neg x) true a c
unfolding neg
whole_minus nan a c v = v
whole_minus (inf t) a c v = v
whole_minus (fin t m e) a c v = (ap not v.0, v.1)

module _ (s : Bool) (n p : ℕ) where
  pub times_ten : (x : Float) → HasValue x s n 1 → mul binary64 x (fin false (5 ^ p) (pos p)) ≡ round binary64 s (n * 10 ^ p) 1
  unfolding mul
  times_ten nan v = absurd v
  times_ten (inf t) v = absurd v
  times_ten (fin t m e) v =
      ap (λ (b : Bool). round binary64 b (m * up e * (5 ^ p * 2 ^ p)) (down e * 1)) (plus_sign t ∙ v.0)
      ∙ round_same binary64 s (m * up e * (5 ^ p * 2 ^ p)) (down e * 1) (n * 10 ^ p) 1 (mul-pos (down_pos e) (omega arith)) (omega arith)
      (ap (λ (x : ℕ). m * up e * x * 1) (sym (tens p)) ∙ moved (m * up e) (10 ^ p) (down e) n v.1)
    where
      moved : (a b c n : ℕ) → a * 1 ≡ n * c → a * b * 1 ≡ n * b * (c * 1)
      moved a b c n e =
          mul_right_comm a b 1 ∙ ap (λ (x : ℕ). x * b) e ∙ mul_right_comm n c b ∙ ap (λ (x : ℕ). n * b * x) (sym (mul-one c))

  pub through_ten : (x : Float) → HasValue x s n 1 → div binary64 x (fin false (5 ^ p) (pos p)) ≡ round binary64 s n (10 ^ p)
  unfolding div
  through_ten nan v = absurd v
  through_ten (inf t) v = absurd v
  through_ten (fin t m e) v =
      ap (λ (b : Bool). cond b (cond (eqb m 0) nan (inf (unlike t false))) (round binary64 (unlike t false) (m * up e * 1) (5 ^ p * 2 ^ p * down e)))
      (ne_eqb (5 ^ p) 0 (not_zero (5 ^ p) (five_pos p)))
      ∙ ap (λ (b : Bool). round binary64 b (m * up e * 1) (5 ^ p * 2 ^ p * down e)) (plus_sign t ∙ v.0)
      ∙ round_same binary64 s (m * up e * 1) (5 ^ p * 2 ^ p * down e) n (10 ^ p) (mul-pos (mul-pos (five_pos p) (pow_pos p)) (down_pos e)) (ten_pos p)
      (ap (λ (x : ℕ). x * 10 ^ p) v.1 ∙ mul_assoc n (down e) (10 ^ p) ∙ ap (λ (x : ℕ). n * x) (mul_comm (down e) (10 ^ p) ∙ ap (λ (x : ℕ). x * down e) (tens p)))
    where
      not_zero : (a : ℕ) → 0 < a → a ≡ 0 → ⊥
      not_zero a h e = omega arith
