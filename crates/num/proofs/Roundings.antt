-- Fractions rounded to whole numbers: a half up, and a half to the even one, which is `closest`: by that the library rounds, and narrowing.
-- Nothing here is about floats. Assumes nothing.
use mathlib.Core.Path.{◌≡◌, refl, sym, ap, ◌∙◌}
use mathlib.Core.Logic.{inl, inr}
use Prim.Native.Nat.{ℕ, suc, ◌+◌, ◌*◌, ◌/◌, ◌%◌, ◌^◌, ◌≤◌, ◌<◌, compare, Ordering}
use native.Mathlib.Nat.{le_trans, zero-lt-suc, mul_comm, mul_assoc, mul-pos, add-mul, div-one, pow-suc, div-le_self, div-add-mod', mod-lt, eq-zero-or-pos}
use native.Mathlib.Numerals.{add-one}
use native.Mathlib.Omega.{arith}
use mathlib.Core.Bool.{Bool, true, false, cond}
use lib.Dec.{ltb, eqb}
use borrow.Author.Tests.{ltb-true, ltb-false, eqb-true, eqb-false, eq-eqb, ne_eqb}
use lib.Arith.{lt_of_le-ne}
use lib.Pow.{pow_pos}
use lib.Ieee.{nearest}
use lib.Ieee.Fits.{nearest-le}
use lib.Ieee.Nearest.{div_same, closest}
use Rattle.num.proofs.Patterns.{cmp_lt, cmp_gt, cmp_eq, closest_lt}
use Rattle.num.specs.Whole.{above_lower, below_upper, even_of, nearer_of, half_even, half_up}

-- ---- a half up: a half is added, and the fraction cut
pub half_up_lem : (g d j : ℕ) → suc j ≡ d → half_up g (2 ^ d) ≡ (g + 2 ^ j) / 2 ^ d
half_up_lem g d j D =
    let twice : 2 ^ d ≡ 2 ^ j * 2 = ap (λ (z : ℕ). 2 ^ z) (sym D) ∙ pow-suc 2 j in
    div_same (g * 2 + 2 ^ d) (2 ^ d * 2) (g + 2 ^ j) (2 ^ d) (mul-pos (pow_pos d) (zero-lt-suc 1)) (pow_pos d)
    (ap (λ (z : ℕ). z * 2 ^ d) (omega (arith, twice)) ∙ mul_assoc (g + 2 ^ j) 2 (2 ^ d) ∙ ap (λ (z : ℕ). (g + 2 ^ j) * z) (mul_comm 2 (2 ^ d)))

-- ---- a half to the even one

-- x and y compare as twice x does with their sum
compare_sum : (x y : ℕ) → compare x y ≡ compare (x * 2) (x + y)
compare_sum x y = go (ltb x y) (eqb x y) refl refl
  where
    go : (l e : Bool) → ltb x y ≡ l → eqb x y ≡ e → compare x y ≡ compare (x * 2) (x + y)
    go true e p q = let h : x < y = ltb-true x y p in cmp_lt x y h ∙ sym (cmp_lt (x * 2) (x + y) (omega arith))
    go false true p q = let h : x ≡ y = eqb-true x y q in cmp_eq x y h ∙ sym (cmp_eq (x * 2) (x + y) (omega arith))
    go false false p q = let h : y < x = lt_of_le-ne (ltb-false x y p) (λ e. eqb-false x y q (sym e)) in cmp_gt x y h ∙ sym (cmp_gt (x * 2) (x + y) (omega arith))

even_sum : (w : ℕ) → even_of w ≡ w + w % 2
even_sum w =
    elim (eq-zero-or-pos (w % 2)) [
      | inl e ↦ ap (λ (b : Bool). cond b w (w + 1)) (eq-eqb (w % 2) 0 e) ∙ omega arith
      | inr p ↦ ap (λ (b : Bool). cond b w (w + 1)) (ne_eqb (w % 2) 0 (λ (e : w % 2 ≡ 0). omega arith)) ∙ omega arith
    ]

nearer_nearest : (w : ℕ) (o : Ordering) → nearer_of w o ≡ nearest w o
nearer_nearest w Ordering.lt = refl
nearer_nearest w Ordering.eq = even_sum w
nearer_nearest w Ordering.gt = add-one w

-- the distances of a / c from its two neighbours are its remainder and what that lacks of c
pub even_closest : (a c : ℕ) → 0 < c → half_even a c ≡ closest a c
even_closest a c C =
    let w = a / c in
    let x = above_lower a c in
    let y = below_upper a c in
    let d : w * c + a % c ≡ a = div-add-mod' a c in
    let u : (w + 1) * c ≡ w * c + 1 * c = add-mul w 1 c in
    let l : a % c < c = mod-lt a C in
    let p : x ≡ a % c = omega arith in
    let q : x + y ≡ c = omega arith in
    ap (nearer_of w) (compare_sum x y ∙ ap (λ (z : ℕ). compare (z * 2) (x + y)) p ∙ ap (compare (a % c * 2)) q) ∙ nearer_nearest w (compare (a % c * 2) c)

pub closest_le : (g u : ℕ) → closest g u ≤ g + 1
closest_le g u = le_trans (nearest-le (g / u) (compare (g % u * 2) u)) (omega (arith, div-le_self g u))

-- a whole number stays
pub closest_whole : (n : ℕ) → closest n 1 ≡ n
closest_whole n = closest_lt n 1 (omega arith) ∙ div-one n
