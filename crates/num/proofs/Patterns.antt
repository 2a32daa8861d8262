-- The pattern that `to_bits` writes for a value given as a number of the format's smallest values, and the value that a pattern of either format stands for. Assumes nothing.
use mathlib.Core.Path.{◌≡◌, refl, sym, ap, ◌∙◌, subst}
use mathlib.Core.Logic.{◌⊎◌, inl, inr}
use Prim.Native.Nat.{ℕ, zero, suc, ◌+◌, ◌-◌, ◌*◌, ◌/◌, ◌%◌, ◌^◌, ◌≤◌, ◌<◌, compare, Ordering}
use native.Mathlib.Nat.{le_of_lt, le_trans, le_of_eq, lt_of_lt_of_le, lt_of_le_of_lt, pow-succ', mod-eq_of_lt, div-eq_of_lt, le_antisymm, lt_of_not-le, not-le_of_lt, eq-or-lt_of_le, mul-one, mul_assoc, mul-le-mul_right, mul-lt-mul_of_pos_right, mul-div_cancel, le-div_iff_mul-le, div-lt_iff_lt-mul}
use native.Mathlib.Omega.{arith}
use mathlib.Core.Bool.{Bool, true, false, not, cond}
use lib.Dec.{T, leb, ltb, eqb, is_le, compare_is_eq, lit<, lit≤, ltb→lt, T_not, not_T, le→leb, lt→ltb, eqb→eq, eqb_refl}
use lib.Arith.{le→nltb, lt→nleb}
use lib.Pow.{pow-add, pow_pos, pow_mono, shl_lt}
use lib.Ieee.{Float, nan, inf, fin, Format, binary32, binary64, prec, low, down, size, nearest, odd, units, round, hid, ones, top, of_fields, of_bits, to_bits}
use lib.Ieee.Digits.{size-lt, size-le}
use lib.Ieee.Fits.{round_is, down_pos}
use lib.Ieee.Exact.{HasValue, odd_sign, units_val}
use lib.Ieee.Nearest.{closest, closest_same}
use lib.Ieee.Scale.{finite}
use lib.Ieee.Bits.{cond_no}

-- ---- digits
pub size_exact : (a n : ℕ) → 2 ^ a ≤ n → n < 2 ^ suc a → size n ≡ suc a
size_exact a n lo hi = le_antisymm (size-le n (suc a) hi) (lt_of_not-le (λ (g : size n ≤ a). not-le_of_lt (lt_of_lt_of_le (size-lt n) (pow_mono g)) lo))

-- ---- what `closest` gives, by how twice the remainder compares
pub cmp_lt : (a b : ℕ) → a < b → compare a b ≡ Ordering.lt
cmp_lt a b h = go (compare a b) (le→leb a b (le_of_lt h)) (not_T (compare_is_eq (compare a b)) (λ (t : T (eqb a b)). clash a b h (eqb→eq a b t)))
  where
    clash : (a b : ℕ) → a < b → a ≡ b → ⊥
    clash a b h e = omega arith

    go : (o : Ordering) → T (is_le o) → T (not (compare_is_eq o)) → o ≡ Ordering.lt
    go Ordering.lt p q = refl
    go Ordering.eq p q = absurd q
    go Ordering.gt p q = absurd p

pub cmp_gt : (a b : ℕ) → b < a → compare a b ≡ Ordering.gt
cmp_gt a b h = go (compare a b) (lt→nleb a b h)
  where
    go : (o : Ordering) → T (not (is_le o)) → o ≡ Ordering.gt
    go Ordering.lt p = absurd p
    go Ordering.eq p = absurd p
    go Ordering.gt p = refl

pub cmp_eq : (a b : ℕ) → a ≡ b → compare a b ≡ Ordering.eq
cmp_eq a b e = go (compare a b) (subst (λ (x : ℕ). T (eqb a x)) e (eqb_refl a))
  where
    go : (o : Ordering) → T (compare_is_eq o) → o ≡ Ordering.eq
    go Ordering.lt p = absurd p
    go Ordering.eq p = refl
    go Ordering.gt p = absurd p

pub closest_lt : (a b : ℕ) → a % b * 2 < b → closest a b ≡ a / b
closest_lt a b h = ap (nearest (a / b)) (cmp_lt (a % b * 2) b h)

-- ---- the bits of a value of a magnitude of a smallest values
pub to_bits_value : (f : Format) (x : Float) (s : Bool) (a : ℕ) → HasValue x s a (2 ^ low f) → to_bits f x ≡ cond s (top f) 0 + (size a - prec f) * hid f + a / 2 ^ (size a - prec f)
unfolding to_bits
to_bits_value f nan s a h = absurd h
to_bits_value f (inf t) s a h = absurd h
to_bits_value f (fin t m e) s a h =
    ap (λ (n : ℕ). cond t (top f) 0 + (size n - prec f) * hid f + n / 2 ^ (size n - prec f)) (ap (λ (x : ℕ). x / down e) h.1 ∙ mul-div_cancel a (down_pos e))
    ∙ ap (λ (b : Bool). cond b (top f) 0 + (size a - prec f) * hid f + a / 2 ^ (size a - prec f)) h.0

few : (z : ℕ) → z ≤ 24 → z - 24 ≡ 0
few z h = omega arith

-- with all digits in use: 2 ^ 23 ≤ q < 2 ^ 24
full : (s : Bool) (q k : ℕ) → 8388608 ≤ q → q < 16777216 → size (q * 2 ^ k) - 24 ≡ k
full s q k lo hi =
    let a : 2 ^ (23 + k) ≤ q * 2 ^ k = le_trans (le_of_eq (pow-add 2 23 k)) (mul-le-mul_right (2 ^ k) lo) in
    let b : q * 2 ^ k < 2 ^ (24 + k) = shl_lt 24 k hi in
    ap (λ (z : ℕ). z - 24) (size_exact (23 + k) (q * 2 ^ k) a (subst (λ (z : ℕ). q * 2 ^ k < 2 ^ z) (one k) b)) ∙ off k
  where
    one : (k : ℕ) → 24 + k ≡ suc (23 + k)
    one k = omega arith

    off : (k : ℕ) → suc (23 + k) - 24 ≡ k
    off k = omega arith

fine : (q k : ℕ) → q < 16777216 → k ≤ 253 → q * 2 ^ k < 2 ^ 277
fine q k h l = lt_of_lt_of_le (shl_lt 24 k h) (pow_mono (top_of k l))
  where
    top_of : (k : ℕ) → k ≤ 253 → 24 + k ≤ 277
    top_of k l = omega arith

join : (c k q : ℕ) → c + k * 8388608 + q ≡ c + (k * 8388608 + q)
join c k q = omega arith

below_top : (s : Bool) (q k : ℕ) → k ≤ 253 → q < 16777216 → (k ≡ 0) ⊎ (8388608 ≤ q) → to_bits binary32 (units binary32 s q k) ≡ cond s 2147483648 0 + (k * 8388608 + q)
below_top s q k l h o =
    let v = to_bits_value binary32 (units binary32 s q k) s (q * 2 ^ k) (units_val binary32 s q k (fine q k h l)) in
    v
    ∙ ap (λ (z : ℕ). cond s 2147483648 0 + z * 8388608 + q * 2 ^ k / 2 ^ z) (drop o)
    ∙ ap (λ (z : ℕ). cond s 2147483648 0 + k * 8388608 + z) (mul-div_cancel q (pow_pos k))
    ∙ join (cond s 2147483648 0) k q
  where
    drop : (k ≡ 0) ⊎ (8388608 ≤ q) → size (q * 2 ^ k) - 24 ≡ k
    drop (inl e) = subst (λ (j : ℕ). size (q * 2 ^ j) - 24 ≡ j) (sym e) (few (size (q * 1)) (size-le (q * 1) 24 (subst (λ (x : ℕ). x < 16777216) (sym (mul-one q)) h)))
    drop (inr g) = full s q k g h

-- a carry into the next exponent: 2 ^ 24 * 2 ^ k is 2 ^ 23 * 2 ^ (k + 1)
carried : (s : Bool) (k : ℕ) → k < 253 → to_bits binary32 (units binary32 s 16777216 k) ≡ cond s 2147483648 0 + (k * 8388608 + 16777216)
carried s k l =
    let c : ℕ = cond s 2147483648 0 in
    let e : 16777216 * 2 ^ k ≡ 8388608 * 2 ^ suc k = mul_assoc 8388608 2 (2 ^ k) ∙ ap (λ (z : ℕ). 8388608 * z) (sym (pow-succ' 2 k)) in
    let small : 16777216 * 2 ^ k < 2 ^ 277 = subst (λ (z : ℕ). z < 2 ^ 277) (sym e) (fine 8388608 (suc k) (lit< tt) l) in
    to_bits_value binary32 (units binary32 s 16777216 k) s (16777216 * 2 ^ k) (units_val binary32 s 16777216 k small)
    ∙ ap (λ (n : ℕ). c + (size n - 24) * 8388608 + n / 2 ^ (size n - 24)) e
    ∙ ap (λ (z : ℕ). c + z * 8388608 + 8388608 * 2 ^ suc k / 2 ^ z) (full s 8388608 (suc k) (lit≤ tt) (lit< tt))
    ∙ ap (λ (z : ℕ). c + suc k * 8388608 + z) (mul-div_cancel 8388608 (pow_pos (suc k)))
    ∙ more c k
  where
    more : (c k : ℕ) → c + suc k * 8388608 + 8388608 ≡ c + (k * 8388608 + 16777216)
    more c k = omega arith

pub inf_bits : (s : Bool) → to_bits binary32 (inf s) ≡ cond s 2147483648 0 + 2139095040
unfolding to_bits
inf_bits true = refl
inf_bits false = refl

over : (s : Bool) → to_bits binary32 (units binary32 s 16777216 253) ≡ cond s 2147483648 0 + (253 * 8388608 + 16777216)
unfolding units
over s = inf_bits s

-- q * 2 ^ k smallest values, rounded already. Its bits are one sum, also where q carries into the next exponent, and where that makes it an infinity
pub units_bits : (s : Bool) (q k : ℕ) → k ≤ 253 → q ≤ 16777216 → (k ≡ 0) ⊎ (8388608 ≤ q) → to_bits binary32 (units binary32 s q k) ≡ cond s 2147483648 0 + (k * 8388608 + q)
units_bits s q k l h o = go (eq-or-lt_of_le h) (eq-or-lt_of_le l)
  where
    Goal : ℕ → ℕ → Type 0
    Goal q k = to_bits binary32 (units binary32 s q k) ≡ cond s 2147483648 0 + (k * 8388608 + q)

    go : (q ≡ 16777216) ⊎ (q < 16777216) → (k ≡ 253) ⊎ (k < 253) → Goal q k
    go (inr g) y = below_top s q k l g o
    go (inl e) (inl d) = subst (λ (z : ℕ). Goal z k) (sym e) (subst (λ (z : ℕ). Goal 16777216 z) (sym d) (over s))
    go (inl e) (inr g) = subst (λ (z : ℕ). Goal z k) (sym e) (carried s k g)

-- from 2 ^ 277 smallest values on it is an infinity
pub units_over : (s : Bool) (q k : ℕ) → 254 ≤ k → 8388608 ≤ q → units binary32 s q k ≡ inf s
unfolding units
units_over s q k l h = cond_no (ltb (q * 2 ^ k) (2 ^ 277)) (odd 25 s q k 149) (inf s) (le→nltb (q * 2 ^ k) (2 ^ 277) (le_trans (pow_mono (reach k l)) (le_trans (le_of_eq (pow-add 2 23 k)) (mul-le-mul_right (2 ^ k) h))))
  where
    reach : (k : ℕ) → 254 ≤ k → 277 ≤ 23 + k
    reach k l = omega arith

-- ---- `round`, by the digits that it drops and the number that it keeps
pub round_units : (s : Bool) (a c q k : ℕ) → size (a * 2 ^ 149 / c) - 24 ≡ k → closest (a * 2 ^ 149) (c * 2 ^ k) ≡ q → round binary32 s a c ≡ units binary32 s q k
round_units s a c q k e d = round_is binary32 s a c ∙ ap (λ (z : ℕ). units binary32 s (closest (a * 2 ^ 149) (c * 2 ^ z)) z) e ∙ ap (λ (z : ℕ). units binary32 s z k) d

-- g * 2 ^ j * 2 ^ l / 2 ^ m for a g of z + 1 digits
whole_size : (g z j l m p : ℕ) → 2 ^ z ≤ g → g < 2 ^ suc z → z + (j + l) ≡ p + m → size (g * 2 ^ j * 2 ^ l / 2 ^ m) ≡ suc p
whole_size g z j l m p lo hi e =
    let n : g * 2 ^ j * 2 ^ l ≡ g * 2 ^ (j + l) = mul_assoc g (2 ^ j) (2 ^ l) ∙ ap (λ (x : ℕ). g * x) (sym (pow-add 2 j l)) in
    let a : 2 ^ p * 2 ^ m ≤ g * 2 ^ j * 2 ^ l = le_trans (le_of_eq (sym (pow-add 2 p m) ∙ ap (λ (x : ℕ). 2 ^ x) (sym e) ∙ pow-add 2 z (j + l))) (le_trans (mul-le-mul_right (2 ^ (j + l)) lo) (le_of_eq (sym n))) in
    let b : g * 2 ^ j * 2 ^ l < 2 ^ suc p * 2 ^ m = lt_of_le_of_lt (le_of_eq n) (lt_of_lt_of_le (mul-lt-mul_of_pos_right hi (pow_pos (j + l))) (le_of_eq (sym (pow-add 2 (suc z) (j + l)) ∙ ap (λ (x : ℕ). 2 ^ x) (up1 z (j + l) p m e) ∙ pow-add 2 (suc p) m))) in
    size_exact p (g * 2 ^ j * 2 ^ l / 2 ^ m) ((le-div_iff_mul-le (pow_pos m)).1 a) ((div-lt_iff_lt-mul (pow_pos m)).1 b)
  where
    up1 : (z y p m : ℕ) → z + y ≡ p + m → suc z + y ≡ suc p + m
    up1 z y p m e = omega arith

whole_few : (g z j l m p : ℕ) → g < 2 ^ z → z + (j + l) ≤ p + m → size (g * 2 ^ j * 2 ^ l / 2 ^ m) ≤ p
whole_few g z j l m p hi e =
    let n : g * 2 ^ j * 2 ^ l ≡ g * 2 ^ (j + l) = mul_assoc g (2 ^ j) (2 ^ l) ∙ ap (λ (x : ℕ). g * x) (sym (pow-add 2 j l)) in
    let b : g * 2 ^ j * 2 ^ l < 2 ^ p * 2 ^ m = lt_of_le_of_lt (le_of_eq n) (lt_of_lt_of_le (shl_lt z (j + l) hi) (le_trans (pow_mono e) (le_of_eq (pow-add 2 p m)))) in
    size-le (g * 2 ^ j * 2 ^ l / 2 ^ m) p ((div-lt_iff_lt-mul (pow_pos m)).1 b)

closest_shift : (g j l m k d : ℕ) → j + l + d ≡ m + k → closest (g * 2 ^ j * 2 ^ l) (2 ^ m * 2 ^ k) ≡ closest g (2 ^ d)
closest_shift g j l m k d e =
    closest_same (g * 2 ^ j * 2 ^ l) (2 ^ m * 2 ^ k) g (2 ^ d) (subst (λ (x : ℕ). 0 < x) (pow-add 2 m k) (pow_pos (m + k))) (pow_pos d)
    (ap (λ (x : ℕ). x * 2 ^ d) (mul_assoc g (2 ^ j) (2 ^ l) ∙ ap (λ (x : ℕ). g * x) (sym (pow-add 2 j l)))
    ∙ mul_assoc g (2 ^ (j + l)) (2 ^ d)
    ∙ ap (λ (x : ℕ). g * x) (sym (pow-add 2 (j + l) d) ∙ ap (λ (x : ℕ). 2 ^ x) e ∙ pow-add 2 m k))

-- ---- g * 2 ^ j / 2 ^ 1074, an f64's value, as an f32: 53 digits of which 29 are dropped, or more where that makes the exponent's field 0
pub round_normal : (s : Bool) (g k : ℕ) → 4503599627370496 ≤ g → g < 9007199254740992 → round binary32 s (g * 2 ^ (896 + k)) (2 ^ 1074) ≡ units binary32 s (closest g (2 ^ 29)) k
round_normal s g k lo hi =
    round_units s (g * 2 ^ (896 + k)) (2 ^ 1074) (closest g (2 ^ 29)) k
    (ap (λ (z : ℕ). z - 24) (whole_size g 52 (896 + k) 149 1074 (23 + k) lo hi (e1 k)) ∙ off k)
    (closest_shift g (896 + k) 149 1074 k 29 (e2 k))
  where
    e1 : (k : ℕ) → 52 + (896 + k + 149) ≡ 23 + k + 1074
    e1 k = omega arith

    e2 : (k : ℕ) → 896 + k + 149 + 29 ≡ 1074 + k
    e2 k = omega arith

    off : (k : ℕ) → suc (23 + k) - 24 ≡ k
    off k = omega arith

pub round_low : (s : Bool) (g j d : ℕ) → g < 9007199254740992 → j + d ≡ 925 → 29 ≤ d → round binary32 s (g * 2 ^ j) (2 ^ 1074) ≡ units binary32 s (closest g (2 ^ d)) 0
round_low s g j d hi e D =
    round_units s (g * 2 ^ j) (2 ^ 1074) (closest g (2 ^ d)) 0
    (few (size (g * 2 ^ j * 2 ^ 149 / 2 ^ 1074)) (whole_few g 53 j 149 1074 24 hi (e1 j d e D)))
    (closest_shift g j 149 1074 0 d (e2 j d e))
  where
    e1 : (j d : ℕ) → j + d ≡ 925 → 29 ≤ d → 53 + (j + 149) ≤ 24 + 1074
    e1 j d e D = omega arith

    e2 : (j d : ℕ) → j + d ≡ 925 → j + 149 + d ≡ 1074 + 0
    e2 j d e = omega arith

-- ---- what the three fields of a pattern stand for
pub of_bits_fields : (f : Format) (b : ℕ) → of_bits f b ≡ of_fields f (leb (top f) b) (b % top f / hid f) (b % hid f)
unfolding of_bits
of_bits_fields f b = refl

pub fields_low : (f : Format) (s : Bool) (t : ℕ) → HasValue (of_fields f s 0 t) s (t * 2 ^ 0) (2 ^ low f)
unfolding of_fields
fields_low f s t = odd_sign (prec f) s t 0 (low f)

pub fields_normal : (f : Format) (s : Bool) (x t : ℕ) → suc x < ones f → HasValue (of_fields f s (suc x) t) s ((hid f + t) * 2 ^ x) (2 ^ low f)
unfolding of_fields
fields_normal f s x t h =
    subst (λ (v : Float). HasValue v s ((hid f + t) * 2 ^ x) (2 ^ low f))
    (sym (cond_no (eqb (suc x) (ones f)) (cond (eqb t 0) (inf s) nan) (odd (prec f) s (hid f + t) x (low f)) (not_T (eqb (suc x) (ones f)) (λ (u : T (eqb (suc x) (ones f))). clash (suc x) (ones f) h (eqb→eq (suc x) (ones f) u)))))
    (odd_sign (prec f) s (hid f + t) x (low f))
  where
    clash : (a b : ℕ) → a < b → a ≡ b → ⊥
    clash a b h e = omega arith

pub closest_zero : (a b : ℕ) → a * 2 < b → closest a b ≡ 0
closest_zero a b h =
    let l : a < b = less a b h in
    closest_lt a b (subst (λ (r : ℕ). r * 2 < b) (sym (mod-eq_of_lt l)) h) ∙ div-eq_of_lt l
  where
    less : (a b : ℕ) → a * 2 < b → a < b
    less a b h = omega arith

-- ---- which patterns are a finite number's: the exponent's field is not all ones, which is one comparison
odd_finite : (d : ℕ) (s : Bool) (q k l : ℕ) → finite (odd d s q k l) ≡ true
unfolding odd
odd_finite d s zero k l = refl
odd_finite d s (suc q) k l = refl

pub finite_fields : (f : Format) (s : Bool) (x t : ℕ) → finite (of_fields f s x t) ≡ not (eqb x (ones f))
unfolding of_fields
finite_fields binary32 s zero t = odd_finite 24 s t 0 149
finite_fields binary64 s zero t = odd_finite 53 s t 0 1074
finite_fields f s (suc x) t = go (eqb (suc x) (ones f)) (eqb t 0)
  where
    go : (a b : Bool) → finite (cond a (cond b (inf s) nan) (odd (prec f) s (hid f + t) x (low f))) ≡ not a
    go true true = refl
    go true false = refl
    go false b = odd_finite (prec f) s (hid f + t) x (low f)

same : (a b : Bool) → (T a → T b) → (T b → T a) → a ≡ b
same true true p q = refl
same true false p q = absurd (p tt)
same false true p q = absurd (q tt)
same false false p q = refl

not_eq : (a b : ℕ) → T (not (eqb a b)) → a ≡ b → ⊥
not_eq a b t e = T_not (eqb a b) t (subst (λ (x : ℕ). T (eqb a x)) e (eqb_refl a))

pub finite_bits : (b : ℕ) → finite (of_bits binary32 b) ≡ ltb (b % 2147483648) 2139095040
finite_bits b =
    ap finite (of_bits_fields binary32 b)
    ∙ finite_fields binary32 (leb 2147483648 b) (b % 2147483648 / 8388608) (b % 8388608)
    ∙ same (not (eqb (b % 2147483648 / 8388608) 255)) (ltb (b % 2147483648) 2139095040)
    (λ t. lt→ltb (b % 2147483648) 2139095040 (below b (not_eq (b % 2147483648 / 8388608) 255 t)))
    (λ t. not_T (eqb (b % 2147483648 / 8388608) 255) (λ u. other b (ltb→lt (b % 2147483648) 2139095040 t) (eqb→eq (b % 2147483648 / 8388608) 255 u)))
  where
    below : (b : ℕ) → (b % 2147483648 / 8388608 ≡ 255 → ⊥) → b % 2147483648 < 2139095040
    below b n = omega arith

    other : (b : ℕ) → b % 2147483648 < 2139095040 → b % 2147483648 / 8388608 ≡ 255 → ⊥
    other b h e = omega arith
