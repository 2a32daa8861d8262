-- A rounded fraction is at most twice the fraction and one unit, so a fraction below 10 ^ 37 stays finite, as an f64 and narrowed. Assumes nothing.
use Prim.Native.Nat.{ℕ, suc, ◌+◌, ◌-◌, ◌*◌, ◌/◌, ◌%◌, ◌^◌, ◌≤◌, ◌<◌, compare}
use native.Mathlib.Nat.{le_trans, le_of_eq, le_of_lt, lt_of_le_of_lt, mul-le-mul_left, mul-le-mul_right, mul_comm, mul_assoc, add-mul, one-mul, div-mul-le_self, div-div-eq-div-mul, div-le_of_le-mul}
use native.Mathlib.Omega.{arith}
use mathlib.Core.Path.{◌≡◌, sym, ap, ◌∙◌, subst}
use mathlib.Core.Logic.{◌⊎◌, inl, inr}
use mathlib.Core.Bool.{Bool}
use lib.Dec.{T, lit<, lit≤}
use lib.Pow.{pow_pos}
use lib.Ieee.{Float, nan, inf, fin, Format, binary32, binary64, prec, low, size, round}
use lib.Ieee.Digits.{size_reaches}
use lib.Ieee.Fits.{round_is, nearest-le}
use lib.Ieee.Exact.{HasValue, units_val}
use lib.Ieee.Order.{drop, kept}
use lib.Ieee.Scale.{finite, grid, overflow}
use Rattle.num.specs.Narrowed.{narrowed}
use Rattle.num.proofs.Laws.{by_le}
use Rattle.num.proofs.Narrowing.{narrowed_value}

-- the unit of the kept digits is no larger than the whole part, or 1
unit_le : (p w : ℕ) → 0 < p → 2 ^ (size w - p) ≤ w + 1
unit_le p w P = go (by_le (size w) p)
  where
    go : (size w ≤ p) ⊎ (p < size w) → 2 ^ (size w - p) ≤ w + 1
    go (inl h) =
        let z : size w - p ≡ 0 = omega arith in
        rw z (omega arith)
    go (inr h) =
        let k : size w - p < size w = omega arith in
        let r = size_reaches w (size w - p) k in
        omega arith

-- in units of the smallest value, a rounded fraction is at most twice its whole part, and 1
kept_bound : (p n c : ℕ) → 0 < p → kept p n c * 2 ^ drop p n c ≤ n / c + n / c + 1
kept_bound p n c P =
    let k = drop p n c in
    let u = c * 2 ^ k in
    let a : kept p n c ≤ suc (n / u) = nearest-le (n / u) (compare (n % u * 2) u) in
    let b : kept p n c * 2 ^ k ≤ suc (n / u) * 2 ^ k = mul-le-mul_right (2 ^ k) a in
    let e : n / c / 2 ^ k ≡ n / u = div-div-eq-div-mul n c (2 ^ k) in
    let d : n / c / 2 ^ k * 2 ^ k ≤ n / c = div-mul-le_self (n / c) (2 ^ k) in
    let f : suc (n / u) * 2 ^ k ≡ n / c / 2 ^ k * 2 ^ k + 2 ^ k = ap (λ (x : ℕ). suc x * 2 ^ k) (sym e) ∙ more (n / c / 2 ^ k) (2 ^ k) in
    let g : 2 ^ k ≤ n / c + 1 = unit_le p (n / c) P in
    let b' : kept p n c * 2 ^ k ≤ n / c / 2 ^ k * 2 ^ k + 2 ^ k = le_trans b (le_of_eq f) in
    sums (kept p n c * 2 ^ k) (n / c / 2 ^ k * 2 ^ k) (2 ^ k) (n / c) b' d g
  where
    more : (x y : ℕ) → suc x * y ≡ x * y + y
    more x y = mul_comm (suc x) y ∙ step y x
      where
        step : (y x : ℕ) → y * suc x ≡ x * y + y
        step y x = omega (arith, mul_comm y x, mul_comm y (suc x), add-mul x 1 y, one-mul y)

    sums : (x a b w : ℕ) → x ≤ a + b → a ≤ w → b ≤ w + 1 → x ≤ w + w + 1
    sums x a b w h i j = omega arith

-- so it is finite where that is below the overflow, and it has this value
round_has : (f : Format) (s : Bool) (a c : ℕ) → grid f a c < overflow f → HasValue (round f s a c) s (grid f a c) (2 ^ low f)
round_has f s a c h =
    subst (λ (z : Float). HasValue z s (grid f a c) (2 ^ low f)) (sym (round_is f s a c))
    (units_val f s (kept (prec f) (a * 2 ^ low f) c) (drop (prec f) (a * 2 ^ low f) c) h)

has_finite : (x : Float) (s : Bool) (a c : ℕ) → HasValue x s a c → T (finite x)
has_finite nan s a c v = absurd v
has_finite (inf t) s a c v = absurd v
has_finite (fin t m e) s a c v = tt

twice : (x y z : ℕ) → x ≤ y → y + y + 1 ≤ z → x + x + 1 ≤ z
twice x y z h i = omega arith

-- a fraction below 10 ^ 37, as an f64
module _ (s : Bool) (a c : ℕ) (C : 0 < c) (h : a < 10 ^ 37 * c) where
  fraction_le : a ≤ c * 2 ^ 123
  fraction_le = le_trans (le_of_lt h) (le_trans (le_of_eq (mul_comm (10 ^ 37) c)) (mul-le-mul_left c (lit≤ tt)))

  whole_le : a * 2 ^ 1074 / c ≤ 2 ^ 1197
  whole_le = div-le_of_le-mul c (le_trans (mul-le-mul_right (2 ^ 1074) fraction_le) (le_of_eq (mul_assoc c (2 ^ 123) (2 ^ 1074))))

  double_le : grid binary64 a c ≤ 2 ^ 1199
  double_le = le_trans (kept_bound 53 (a * 2 ^ 1074) c (lit< tt)) (twice (a * 2 ^ 1074 / c) (2 ^ 1197) (2 ^ 1199) whole_le (lit≤ tt))

  double_has : HasValue (round binary64 s a c) s (grid binary64 a c) (2 ^ 1074)
  double_has = round_has binary64 s a c (lt_of_le_of_lt double_le (lit< tt))

  single_le : grid binary32 (grid binary64 a c) (2 ^ 1074) ≤ 2 ^ 276
  single_le =
      le_trans (kept_bound 24 (grid binary64 a c * 2 ^ 149) (2 ^ 1074) (lit< tt))
      (twice (grid binary64 a c * 2 ^ 149 / 2 ^ 1074) (2 ^ 274) (2 ^ 276) (div-le_of_le-mul (2 ^ 1074) (mul-le-mul_right (2 ^ 149) double_le)) (lit≤ tt))

  -- and narrowed
  pub narrowed_finite : T (finite (narrowed (round binary64 s a c)))
  narrowed_finite =
      subst (λ (x : Float). T (finite x)) (sym (narrowed_value (round binary64 s a c) s (grid binary64 a c) (2 ^ 1074) (pow_pos 1074) double_has))
      (has_finite (round binary32 s (grid binary64 a c) (2 ^ 1074)) s (grid binary32 (grid binary64 a c) (2 ^ 1074)) (2 ^ 149)
      (round_has binary32 s (grid binary64 a c) (2 ^ 1074) (lt_of_le_of_lt single_le (lit< tt))))
