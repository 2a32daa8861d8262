-- Half the sum of a box's sides is finite where the sum is. Assumes nothing.
use Prim.Native.Nat.{ℕ, zero, suc, ◌+◌, ◌*◌, ◌%◌, ◌^◌, ◌≤◌, ◌<◌}
use native.Mathlib.Nat.{zero-lt-suc, le_of_lt, zero-mul, mul-one, mul_assoc}
use native.Mathlib.Omega.{arith}
use mathlib.Core.Path.{◌≡◌, refl, sym, subst}
use mathlib.Core.Bool.{true, false, ◌&&◌}
use lib.IntN.{ℤ, pos}
use lib.Dec.{T, ltb, leb, eqb, ltb→lt}
use lib.Ieee.{Float, nan, inf, fin, binary32, up, down, of_bits, round, fits, sum, add, div, le}
use lib.Ieee.Scale.{finite}
use lib.Ieee.Fits.{and_r, down_pos}
use lib.Ieee.Order.{round_mono}
use Rattle.num.specs.Constants.{two}
use Rattle.num.proofs.Laws.{plus, round_plus}

-- a sum of two numbers that are not negative is not negative
pub add_plus : (x y : Float) → T (finite x) → T (finite y) → T (plus x) → T (plus y) → T (plus (add binary32 x y))
unfolding add sum
add_plus nan y h k p q = absurd h
add_plus (inf s) y h k p q = absurd h
add_plus (fin true m e) y h k p q = absurd p
add_plus (fin false m e) nan h k p q = absurd k
add_plus (fin false m e) (inf t) h k p q = absurd k
add_plus (fin false m e) (fin true n d) h k p q = absurd q
add_plus (fin false m e) (fin false n d) h k p q = round_plus binary32 (m * up e * down d + n * up d * down e) (down e * down d)

-- 2 ^ 127, which f32 holds
abbrev bound : Float
bound = fin false 1 (pos 127)

bound_is : round binary32 false (2 ^ 127) 1 ≡ bound
unfolding round
bound_is = refl

below_bound : (x : Float) → T (plus x) → T (le x bound) → T (finite x)
unfolding le
below_bound nan p h = p
below_bound (inf true) p h = p
below_bound (inf false) p h = h
below_bound (fin s m e) p h = tt

zero_least : (n : ℕ) → 0 ≤ n
zero_least n = omega arith

-- an f32 is below 2 ^ 128
in_f32 : (m : ℕ) (e : ℤ) → T (fits binary32 (fin false m e)) → m * up e ≤ 2 ^ 128 * down e
unfolding fits
in_f32 zero e h = subst (λ (z : ℕ). z ≤ 2 ^ 128 * down e) (sym (zero-mul (up e))) (zero_least (2 ^ 128 * down e))
in_f32 (suc m) e h =
    le_of_lt (ltb→lt (suc m * up e) (2 ^ 128 * down e)
    (and_r (eqb (suc m % 2) 1 && ltb (suc m) (2 ^ 24) && leb (down e) (2 ^ 149)) (ltb (suc m * up e) (2 ^ 128 * down e)) h))

halves : (k a d : ℕ) → a ≤ k * 2 * d → a * 1 * 1 ≤ k * (2 * d)
halves k a d h = rw (mul-one (a * 1), mul-one a) (subst (λ (z : ℕ). a ≤ z) (mul_assoc k 2 d) h)

pub half_finite : (x : Float) → T (fits binary32 x) → T (finite x) → T (plus x) → T (finite (div binary32 x two))
unfolding div of_bits
half_finite nan f h p = absurd h
half_finite (inf s) f h p = absurd h
half_finite (fin true m e) f h p = absurd p
half_finite (fin false m e) f h p =
    let a = m * up e * 1 in
    let c = 1 * 2 * down e in
    let D : 0 < c = let d : 0 < down e = down_pos e in omega arith in
    let w : a * 1 ≤ 2 ^ 127 * c = halves (2 ^ 127) (m * up e) (down e) (in_f32 m e f) in
    below_bound (round binary32 false a c) (round_plus binary32 a c)
    (subst (λ (y : Float). T (le (round binary32 false a c) y)) bound_is (round_mono binary32 a c (2 ^ 127) 1 D (zero-lt-suc 0) w))
