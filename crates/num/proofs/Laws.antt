-- Which results of the operations are no NaN, and which are finite or not negative. Assumes nothing.
use mathlib.Core.Path.{◌≡◌, refl, sym, ap, ◌∙◌, subst}
use Prim.Native.Nat.{ℕ, zero, suc, ◌+◌, ◌-◌, ◌*◌, ◌/◌, ◌%◌, ◌^◌, ◌≤◌, ◌<◌, compare}
use native.Mathlib.Nat.{le_of_lt, zero-lt-suc, mul-pos}
use native.Mathlib.Omega.{arith}
use mathlib.Core.Logic.{◌⊎◌, inl, inr}
use mathlib.Core.Bool.{Bool, true, false, not, ◌&&◌, ◌||◌, beq, cond, true≢false}
use lib.IntN.{ℤ, pos}
use lib.Dec.{T, leb, ltb, eqb, leb→le, nleb→lt, ltb→lt, eqb→eq}
use borrow.Author.Tests.{ltb-true, lt-ltb, le-ltb}
use lib.Ieee.{Float, nan, inf, fin, Format, binary32, binary64, prec, emax, low, unlike, up, down, size, nearest, odd, units, round, neg, sum, add, sub, mul, div, lt, le, is_nan}
use lib.Ieee.Fits.{round_is, down_pos}
use lib.Ieee.Order.{round_mono}
use lib.Ieee.Scale.{finite}
use Rattle.num.specs.Numbers.{IsNumber}

pub fin_num : (s : Bool) (m : ℕ) (e : ℤ) → IsNumber (fin s m e)
unfolding is_nan
fin_num s m e = tt

pub inf_num : (s : Bool) → IsNumber (inf s)
unfolding is_nan
inf_num s = tt

pub finite_num : (x : Float) → T (finite x) → IsNumber x
finite_num nan h = absurd h
finite_num (inf s) h = absurd h
finite_num (fin s m e) h = fin_num s m e

pub cond_num : (b : Bool) (x y : Float) → IsNumber x → IsNumber y → IsNumber (cond b x y)
cond_num true x y p q = p
cond_num false x y p q = q

pub odd_num : (d : ℕ) (s : Bool) (q k l : ℕ) → IsNumber (odd d s q k l)
unfolding odd is_nan
odd_num d s zero k l = tt
odd_num d s (suc q) k l = tt

pub units_num : (f : Format) (s : Bool) (q k : ℕ) → IsNumber (units f s q k)
unfolding units
units_num f s q k = cond_num (ltb (q * 2 ^ k) (2 ^ (low f + suc (emax f)))) (odd (suc (prec f)) s q k (low f)) (inf s) (odd_num (suc (prec f)) s q k (low f)) (inf_num s)

pub round_num : (f : Format) (s : Bool) (a c : ℕ) → IsNumber (round f s a c)
round_num f s a c =
    let n = a * 2 ^ low f in
    let k = size (n / c) - prec f in
    let u = c * 2 ^ k in
    subst IsNumber (sym (round_is f s a c)) (units_num f s (nearest (n / u) (compare (n % u * 2) u)) k)

pub sum_num : (f : Format) (s : Bool) (a : ℕ) (t : Bool) (b c : ℕ) → IsNumber (sum f s a t b c)
unfolding sum
sum_num f s a t b c =
    cond_num (beq s t) (round f s (a + b) c) (cond (ltb a b) (round f t (b - a) c) (round f (s && ltb b a) (a - b) c)) (round_num f s (a + b) c)
    (cond_num (ltb a b) (round f t (b - a) c) (round f (s && ltb b a) (a - b) c) (round_num f t (b - a) c) (round_num f (s && ltb b a) (a - b) c))

pub add_num : (f : Format) (x y : Float) → T (finite x) → T (finite y) → IsNumber (add f x y)
unfolding add
add_num f nan y h k = absurd h
add_num f (inf s) y h k = absurd h
add_num f (fin s m e) nan h k = absurd k
add_num f (fin s m e) (inf t) h k = absurd k
add_num f (fin s m e) (fin t n d) h k = sum_num f s (m * up e * down d) t (n * up d * down e) (down e * down d)

pub neg_finite : (x : Float) → T (finite x) → T (finite (neg x))
unfolding neg
neg_finite nan h = absurd h
neg_finite (inf s) h = absurd h
neg_finite (fin s m e) h = tt

pub sub_num : (f : Format) (x y : Float) → T (finite x) → T (finite y) → IsNumber (sub f x y)
unfolding sub
sub_num f x y h k = add_num f x (neg y) h (neg_finite y k)

pub mul_num : (f : Format) (x y : Float) → T (finite x) → T (finite y) → IsNumber (mul f x y)
unfolding mul
mul_num f nan y h k = absurd h
mul_num f (inf s) y h k = absurd h
mul_num f (fin s m e) nan h k = absurd k
mul_num f (fin s m e) (inf t) h k = absurd k
mul_num f (fin s m e) (fin t n d) h k = round_num f (unlike s t) (m * up e * (n * up d)) (down e * down d)

-- the divisor is finite and not zero
abbrev pub nonzero : Float → Bool
nonzero nan = false
nonzero (inf s) = false
nonzero (fin s m e) = not (eqb m 0)

pub div_num : (f : Format) (x y : Float) → IsNumber x → T (nonzero y) → IsNumber (div f x y)
unfolding div is_nan
div_num f nan y h k = absurd h
div_num f (inf s) nan h k = absurd k
div_num f (inf s) (inf t) h k = absurd k
div_num f (inf s) (fin t n d) h k = tt
div_num f (fin s m e) nan h k = absurd k
div_num f (fin s m e) (inf t) h k = absurd k
div_num f (fin s m e) (fin t n d) h k = go (eqb n 0) k
  where
    go : (b : Bool) → T (not b) → IsNumber (cond b (cond (eqb m 0) nan (inf (unlike s t))) (round f (unlike s t) (m * up e * down d) (n * up d * down e)))
    go true h = absurd h
    go false h = round_num f (unlike s t) (m * up e * down d) (n * up d * down e)

-- ---- neither a NaN nor negative: zero or above it with the sign clear, an infinity included
abbrev pub plus : Float → Bool
plus nan = false
plus (inf s) = not s
plus (fin s m e) = not s

odd_plus : (d q k l : ℕ) → T (plus (odd d false q k l))
unfolding odd
odd_plus d zero k l = tt
odd_plus d (suc q) k l = tt

units_plus : (f : Format) (q k : ℕ) → T (plus (units f false q k))
unfolding units
units_plus f q k = go (ltb (q * 2 ^ k) (2 ^ (low f + suc (emax f))))
  where
    go : (b : Bool) → T (plus (cond b (odd (suc (prec f)) false q k (low f)) (inf false)))
    go true = odd_plus (suc (prec f)) q k (low f)
    go false = tt

pub round_plus : (f : Format) (a c : ℕ) → T (plus (round f false a c))
round_plus f a c =
    let n = a * 2 ^ low f in
    let k = size (n / c) - prec f in
    let u = c * 2 ^ k in
    subst (λ (x : Float). T (plus x)) (sym (round_is f false a c)) (units_plus f (nearest (n / u) (compare (n % u * 2) u)) k)

pub by_le : (a b : ℕ) → (a ≤ b) ⊎ (b < a)
by_le a b = go (leb a b) (leb→le a b) (nleb→lt a b)
  where
    go : (t : Bool) → (T t → a ≤ b) → (T (not t) → b < a) → (a ≤ b) ⊎ (b < a)
    go true p q = inl (p tt)
    go false p q = inr (q tt)

-- ---- a difference x - y for y < x, as one fraction in every format
pub gap : (x y : Float) → T (finite x) → T (finite y) → lt y x ≡ true → (a : ℕ) × (c : ℕ) × (0 < c) × ((f : Format) → sub f x y ≡ round f false a c)
unfolding lt sub add neg sum
gap nan y h k l = absurd h
gap (inf s) y h k l = absurd h
gap (fin s m e) nan h k l = absurd k
gap (fin s m e) (inf t) h k l = absurd k
gap (fin false m e) (fin true n d) h k l = (m * up e * down d + n * up d * down e, down e * down d, mul-pos (down_pos e) (down_pos d), λ f. refl)
gap (fin true m e) (fin false n d) h k l = absurd (true≢false (sym l))
gap (fin false m e) (fin false n d) h k l =
    let A = m * up e * down d in
    let B = n * up d * down e in (
      A - B,
      down e * down d,
      mul-pos (down_pos e) (down_pos d),
      λ f. ap (λ (b : Bool). cond b (round f true (B - A) (down e * down d)) (round f false (A - B) (down e * down d))) (le-ltb A B (le_of_lt (ltb-true B A l))),
    )
gap (fin true m e) (fin true n d) h k l =
    let A = m * up e * down d in
    let B = n * up d * down e in (
      B - A,
      down e * down d,
      mul-pos (down_pos e) (down_pos d),
      λ f. ap (λ (b : Bool). cond b (round f false (B - A) (down e * down d)) (round f (ltb B A) (A - B) (down e * down d))) (lt-ltb A B (ltb-true A B l)),
    )

-- ---- the largest f32, and what lies below it
abbrev pub largest : Float
largest = fin false 16777215 (pos 104)

largest_32 : round binary32 false (16777215 * 2 ^ 104) 1 ≡ largest
unfolding round
largest_32 = refl

largest_64 : round binary64 false (16777215 * 2 ^ 104) 1 ≡ largest
unfolding round
largest_64 = refl

finite_of_le : (x : Float) → T (plus x) → T (le x largest) → T (finite x)
unfolding le
finite_of_le nan p h = p
finite_of_le (inf true) p h = p
finite_of_le (inf false) p h = h
finite_of_le (fin s m e) p h = tt

clash_le : (a b : ℕ) → a < b → T (ltb b a || (eqb b a && true)) → ⊥
clash_le a b h t = go (ltb b a) (eqb b a) t (ltb→lt b a) (eqb→eq b a)
  where
    go : (x y : Bool) → T (x || (y && true)) → (T x → b < a) → (T y → b ≡ a) → ⊥
    go true y t p q = let z : b < a = p tt in omega arith
    go false true t p q = let z : b ≡ a = q tt in omega arith
    go false false t p q = t

not_both : (x : Float) → T (plus x) → T (le largest x) → lt x largest ≡ true → ⊥
unfolding le lt
not_both nan p h l = p
not_both (inf true) p h l = p
not_both (inf false) p h l = true≢false (sym l)
not_both (fin true m e) p h l = p
not_both (fin false m e) p h l = clash_le (m * up e * 1) (16777215 * 2 ^ 104 * down e) (ltb-true (m * up e * 1) (16777215 * 2 ^ 104 * down e) l) h

-- a difference that in f64 lies below the largest f32 is finite in f32, and it is not negative
pub gap_finite : (x y : Float) → T (finite x) → T (finite y) → lt y x ≡ true → lt (sub binary64 x y) largest ≡ true → T (finite (sub binary32 x y)) × T (plus (sub binary32 x y))
gap_finite x y h k l d =
    let g = gap x y h k l in
    let a = g.0 in
    let c = g.1 in
    let M = 16777215 * 2 ^ 104 in
    let is32 : sub binary32 x y ≡ round binary32 false a c = g.3 binary32 in
    let is64 : sub binary64 x y ≡ round binary64 false a c = g.3 binary64 in
    let p32 : T (plus (sub binary32 x y)) = subst (λ (z : Float). T (plus z)) (sym is32) (round_plus binary32 a c) in (
      elim (by_le (a * 1) (M * c)) [
        | inl q ↦ finite_of_le (sub binary32 x y) p32 (subst (λ (z : Float). T (le z largest)) (sym is32) (subst (λ (z : Float). T (le (round binary32 false a c) z)) largest_32 (round_mono binary32 a c M 1 g.2 (zero-lt-suc 0) q)))
        | inr q ↦ absurd (not_both (round binary64 false a c) (round_plus binary64 a c) (subst (λ (z : Float). T (le z (round binary64 false a c))) largest_64 (round_mono binary64 M 1 a c (zero-lt-suc 0) g.2 (le_of_lt q))) (sym (ap (λ (z : Float). lt z largest) is64) ∙ d))
      ],
      p32,
    )

-- ---- with an infinity on one side
pub add_num_left : (f : Format) (x y : Float) → IsNumber x → T (finite y) → IsNumber (add f x y)
unfolding add is_nan
add_num_left f nan y h k = absurd h
add_num_left f (inf s) nan h k = absurd k
add_num_left f (inf s) (inf t) h k = absurd k
add_num_left f (inf s) (fin t n d) h k = tt
add_num_left f (fin s m e) nan h k = absurd k
add_num_left f (fin s m e) (inf t) h k = absurd k
add_num_left f (fin s m e) (fin t n d) h k = sum_num f s (m * up e * down d) t (n * up d * down e) (down e * down d)

pub mul_num_left : (f : Format) (x y : Float) → IsNumber x → T (nonzero y) → IsNumber (mul f x y)
unfolding mul is_nan
mul_num_left f nan y h k = absurd h
mul_num_left f (inf s) nan h k = absurd k
mul_num_left f (inf s) (inf t) h k = absurd k
mul_num_left f (inf s) (fin t n d) h k = go (eqb n 0) k
  where
    go : (b : Bool) → T (not b) → IsNumber (cond b nan (inf (unlike s t)))
    go true h = absurd h
    go false h = tt
mul_num_left f (fin s m e) nan h k = absurd k
mul_num_left f (fin s m e) (inf t) h k = absurd k
mul_num_left f (fin s m e) (fin t n d) h k = round_num f (unlike s t) (m * up e * (n * up d)) (down e * down d)
