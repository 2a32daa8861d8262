-- A product of opacities is an opacity, and so is alpha ÷ 255: a fraction between 0 and 1 is rounded to one, since rounding keeps the order
-- and both ends. Assumes nothing.
use mathlib.Core.Path.{◌≡◌, refl, subst}
use Prim.Native.Nat.{ℕ, ◌*◌, ◌≤◌, ◌<◌}
use native.Mathlib.Nat.{zero-lt-suc, le_of_lt, le_of_eq, mul-pos}
use native.Mathlib.Omega.{arith}
use mathlib.Core.Bool.{Bool, true, false, not, ◌&&◌, ◌||◌}
use lib.IntN.{ℤ}
use lib.Dec.{T, leb, ltb, eqb, leb→le, ltb→lt, eqb→eq}
use lib.Ieee.{Float, nan, inf, fin, binary32, up, down, of_bits, of_int, round, mul, div, le}
use lib.Ieee.Scale.{finite}
use lib.Ieee.Fits.{and_i, and_l, and_r, down_pos}
use lib.Ieee.Order.{round_mono}
use Rattle.std.proofs.lemmas.Nat.{mul-le}
use Rattle.num.specs.Constants.{plus_zero, one}
use Rattle.num.specs.Numbers.{IsNumber}
use Rattle.num.specs.Sign.{sign_negative, opacity_in}
use Rattle.num.proofs.Laws.{finite_num, plus, round_plus}
use Rattle.fe_flood.specs.Flood.{opaque_alpha, alpha_opacity}

-- the order of two numbers that are not negative, as one of fractions
at_most : (a b : ℕ) → T (ltb a b || (eqb a b && true)) → a ≤ b
at_most a b t = go (ltb a b) (eqb a b) t (ltb→lt a b) (eqb→eq a b)
  where
    go : (x y : Bool) → T (x || (y && true)) → (T x → a < b) → (T y → a ≡ b) → a ≤ b
    go true y t p q = le_of_lt (p tt)
    go false true t p q = le_of_eq (q tt)
    go false false t p q = absurd t

ends : (round binary32 false 0 1 ≡ plus_zero) × (round binary32 false 1 1 ≡ one)
unfolding round of_bits
ends = (refl, refl)

plus_sign : (x : Float) → T (plus x) → T (not (sign_negative x))
plus_sign nan h = absurd h
plus_sign (inf s) h = h
plus_sign (fin s m e) h = h

-- a fraction from 0 to 1, rounded
rounded_ok : (a c : ℕ) → 0 < c → a ≤ c → T (opacity_in (round binary32 false a c))
unfolding opacity_in
rounded_ok a c C h =
    let x = round binary32 false a c in
    let z : 0 * c ≤ a * 1 = omega arith in
    let w : a * 1 ≤ 1 * c = omega arith in
    let low : T (le plus_zero x) = subst (λ (y : Float). T (le y x)) ends.0 (round_mono binary32 0 1 a c (zero-lt-suc 0) C z) in
    let high : T (le x one) = subst (λ (y : Float). T (le x y)) ends.1 (round_mono binary32 a c 1 1 C (zero-lt-suc 0) w) in
    and_i (le plus_zero x && le x one) (not (sign_negative x)) (and_i (le plus_zero x) (le x one) low high) (plus_sign x (round_plus binary32 a c))

-- an opacity is a fraction from 0 to 1
fraction : (m : ℕ) (e : ℤ) → T (opacity_in (fin false m e)) → m * up e ≤ down e
unfolding opacity_in le of_bits
fraction m e h =
    let x = fin false m e in
    let k : m * up e * 1 ≤ 1 * 1 * down e = at_most (m * up e * 1) (1 * 1 * down e) (and_r (le plus_zero x) (le x one) (and_l (le plus_zero x && le x one) true h)) in
    omega arith

not_ok : (x : Float) → T (opacity_in x) → T (not (sign_negative x)) × T (finite x)
unfolding opacity_in le of_bits
not_ok nan h = absurd h
not_ok (inf true) h = absurd h
not_ok (inf false) h = absurd h
not_ok (fin true m e) h = absurd (and_r (le plus_zero (fin true m e) && le (fin true m e) one) false h)
not_ok (fin false m e) h = (tt, tt)

pub opacity_num : (x : Float) → T (opacity_in x) → IsNumber x
opacity_num x h = finite_num x (not_ok x h).1

pub mul_ok : (x y : Float) → T (opacity_in x) → T (opacity_in y) → T (opacity_in (mul binary32 x y))
unfolding mul
mul_ok nan y h k = absurd (not_ok nan h).1
mul_ok (inf s) y h k = absurd (not_ok (inf s) h).1
mul_ok (fin true m e) y h k = absurd (not_ok (fin true m e) h).0
mul_ok (fin false m e) nan h k = absurd (not_ok nan k).1
mul_ok (fin false m e) (inf t) h k = absurd (not_ok (inf t) k).1
mul_ok (fin false m e) (fin true n d) h k = absurd (not_ok (fin true n d) k).0
mul_ok (fin false m e) (fin false n d) h k =
    rounded_ok (m * up e * (n * up d)) (down e * down d) (mul-pos (down_pos e) (down_pos d))
    (mul-le (m * up e) (n * up d) (down e) (down d) (fraction m e h) (fraction n d k))

-- ---- alpha ÷ 255
opaque_is : round binary32 false 255 1 ≡ opaque_alpha
unfolding round of_bits
opaque_is = refl

div_ok : (x : Float) → T (plus x) → T (le x opaque_alpha) → T (opacity_in (div binary32 x opaque_alpha))
unfolding div le of_bits
div_ok nan p h = absurd p
div_ok (inf true) p h = absurd p
div_ok (inf false) p h = absurd h
div_ok (fin true m e) p h = absurd p
div_ok (fin false m e) p h =
    let k : m * up e * 1 ≤ 255 * 1 * down e = at_most (m * up e * 1) (255 * 1 * down e) h in
    let D : 0 < 255 * 1 * down e = let d : 0 < down e = down_pos e in omega arith in
    rounded_ok (m * up e * 1) (255 * 1 * down e) D k

pub alpha_ok : (alpha : ℕ) → T (leb alpha 255) → T (opacity_in (alpha_opacity alpha))
unfolding alpha_opacity of_int
alpha_ok alpha h =
    let a : alpha ≤ 255 = leb→le alpha 255 h in
    let x = round binary32 false alpha 1 in
    let w : alpha * 1 ≤ 255 * 1 = omega arith in
    div_ok x (round_plus binary32 alpha 1) (subst (λ (y : Float). T (le x y)) opaque_is (round_mono binary32 alpha 1 255 1 (zero-lt-suc 0) (zero-lt-suc 0) w))
