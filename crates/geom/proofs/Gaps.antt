-- Two f32 numbers that differ do so by the smallest f32 at least, so that their rounded difference is not zero. Assumes nothing.
use mathlib.Core.Path.{◌≡◌, refl, sym, ap, ◌∙◌, subst}
use mathlib.Core.Logic.{inl, inr}
use mathlib.Core.Bool.{Bool, true, false, not, ◌&&◌, cond, true≢false}
use Prim.Native.Nat.{ℕ, zero, suc, ◌+◌, ◌-◌, ◌*◌, ◌%◌, ◌^◌, ◌≤◌, ◌<◌}
use native.Mathlib.Nat.{le_trans, le_of_eq, le_of_lt, not-le_of_lt, zero-mul, mul-one, one-mul, mul_comm, mul_assoc, mul_right_comm, add-mul, mul-sub, mul-le-mul_right, mul-pos, zero-lt-suc, sub-pos_iff_lt}
use native.Mathlib.Omega.{arith}
use lib.IntN.{ℤ, pos, negsuc}
use lib.Dec.{T, leb, ltb, eqb, leb→le, ltb→lt}
use lib.Pow.{pow-add, pow_pos, pow-lt}
use borrow.Author.Tests.{ltb-true, lt-ltb, le-ltb}
use lib.Ieee.{Float, nan, inf, fin, binary32, up, down, below, round, neg, sum, add, sub, lt, le, fits}
use lib.Ieee.Fits.{up_pos, down_pos, and_l, and_r}
use lib.Ieee.Bits.{is_true}
use lib.Ieee.Order.{round_mono}
use lib.Ieee.Positive.{above, above_of_le, first_pos}
use lib.Ieee.Scale.{finite}
use Rattle.num.proofs.Laws.{by_le}

-- ---- a / c is a whole number k of the smallest f32, 2 ^ -149
abbrev Whole : ℕ → ℕ → Type 0
Whole a c = (k : ℕ) × (a * 2 ^ 149 ≡ k * c)

-- over a common denominator, from either side
over_left : (a c d : ℕ) → Whole a c → Whole (a * d) (c * d)
over_left a c d w = (w.0, mul_right_comm a d (2 ^ 149) ∙ ap (λ (z : ℕ). z * d) w.1 ∙ mul_assoc w.0 c d)

over_right : (a c d : ℕ) → Whole a c → Whole (a * d) (d * c)
over_right a c d w = let v = over_left a c d w in (v.0, v.1 ∙ ap (λ (z : ℕ). v.0 * z) (mul_comm c d))

whole_sum : (a b c : ℕ) → Whole a c → Whole b c → Whole (a + b) c
whole_sum a b c v w = (v.0 + w.0, add-mul a b (2 ^ 149) ∙ ap (λ (z : ℕ). z + b * 2 ^ 149) v.1 ∙ ap (λ (z : ℕ). v.0 * c + z) w.1 ∙ sym (add-mul v.0 w.0 c))

whole_difference : (a b c : ℕ) → Whole a c → Whole b c → Whole (a - b) c
whole_difference a b c v w = (
  v.0 - w.0,
  mul_comm (a - b) (2 ^ 149)
      ∙ mul-sub (2 ^ 149) a b
      ∙ ap (λ (z : ℕ). z - 2 ^ 149 * b) (mul_comm (2 ^ 149) a ∙ v.1 ∙ mul_comm v.0 c)
      ∙ ap (λ (z : ℕ). c * v.0 - z) (mul_comm (2 ^ 149) b ∙ w.1 ∙ mul_comm w.0 c)
      ∙ sym (mul-sub c v.0 w.0)
      ∙ mul_comm c (v.0 - w.0),
)

-- above zero, it is the smallest f32 at least
whole_least : (a c : ℕ) → Whole a c → 0 < a → c ≤ a * 2 ^ 149
whole_least a c w h =
    let k : 0 < w.0 = first_pos w.0 c (subst (λ (z : ℕ). 0 < z) w.1 (mul-pos h (pow_pos 149))) in
    le_trans (le_of_eq (sym (one-mul c))) (le_trans (mul-le-mul_right c k) (le_of_eq (sym w.1)))

-- ---- each f32 is such a number: 2 ^ 149 is a multiple of its denominator 2 ^ j
whole_down : (m j : ℕ) → j ≤ 149 → m * 1 * 2 ^ 149 ≡ m * 2 ^ (149 - j) * 2 ^ j
whole_down m j h = ap (λ (z : ℕ). z * 2 ^ 149) (mul-one m) ∙ ap (λ (z : ℕ). m * z) (ap (λ (z : ℕ). 2 ^ z) (parts j h) ∙ pow-add 2 (149 - j) j) ∙ sym (mul_assoc m (2 ^ (149 - j)) (2 ^ j))
  where
    parts : (j : ℕ) → j ≤ 149 → 149 ≡ 149 - j + j
    parts j h = omega arith

within : (j : ℕ) → 2 ^ j ≤ 2 ^ 149 → j ≤ 149
within j h = elim (by_le j 149) [ inl l ↦ l | inr g ↦ absurd (not-le_of_lt (pow-lt g) h) ]

whole_fits : (s : Bool) (m : ℕ) (e : ℤ) → T (fits binary32 (fin s m e)) → Whole (m * up e) (down e)
unfolding fits
whole_fits s zero e t = (0, ap (λ (z : ℕ). z * 2 ^ 149) (zero-mul (up e)) ∙ zero-mul (2 ^ 149) ∙ sym (zero-mul (down e)))
whole_fits s (suc m) (pos j) t = (suc m * 2 ^ j * 2 ^ 149, sym (mul-one (suc m * 2 ^ j * 2 ^ 149)))
whole_fits s (suc m) (negsuc j) t =
    let a = eqb (suc m % 2) 1 && ltb (suc m) (2 ^ 24) in
    let b = leb (2 ^ suc j) (2 ^ 149) in
    let d = ltb (suc m * 1) (2 ^ 128 * 2 ^ suc j) in
    (suc m * 2 ^ (149 - suc j), whole_down (suc m) (suc j) (within (suc j) (leb→le (2 ^ suc j) (2 ^ 149) (and_r a b (and_l (a && b) d t)))))

-- ±a / c - ±b / c by the two signs, for ±b < ±a
signs : (s t : Bool) (a b c : ℕ) → 0 < c → Whole a c → Whole b c → below t b s a ≡ true → (n : ℕ) × (d : ℕ) × (0 < d) × (d ≤ n * 2 ^ 149) × (sum binary32 s a (not t) b c ≡ round binary32 false n d)
unfolding sum
signs true false a b c C v w l = absurd (true≢false (sym l))
signs false true a b c C v w l = (a + b, c, C, whole_least (a + b) c (whole_sum a b c v w) (swap a b (ltb-true 0 (b + a) l)), refl)
  where
    swap : (a b : ℕ) → 0 < b + a → 0 < a + b
    swap a b h = omega arith
signs false false a b c C v w l =
    let o : b < a = ltb-true b a l in
    (a - b, c, C, whole_least (a - b) c (whole_difference a b c v w) (sub-pos_iff_lt.1 o), ap (λ (p : Bool). cond p (round binary32 true (b - a) c) (round binary32 false (a - b) c)) (le-ltb a b (le_of_lt o)))
signs true true a b c C v w l =
    let o : a < b = ltb-true a b l in
    (b - a, c, C, whole_least (b - a) c (whole_difference b a c w v) (sub-pos_iff_lt.1 o), ap (λ (p : Bool). cond p (round binary32 false (b - a) c) (round binary32 (ltb b a) (a - b) c)) (lt-ltb a b o))

-- ---- the difference of two f32 numbers y < x is a fraction a / c of 2 ^ -149 at least
abbrev Gap : Float → Float → Type 0
Gap x y = (a : ℕ) × (c : ℕ) × (0 < c) × (c ≤ a * 2 ^ 149) × (sub binary32 x y ≡ round binary32 false a c)

gap_units : (x y : Float) → T (fits binary32 x) → T (fits binary32 y) → T (finite x) → T (finite y) → lt y x ≡ true → Gap x y
unfolding lt sub add neg sum
gap_units nan y f g h k l = absurd h
gap_units (inf s) y f g h k l = absurd h
gap_units (fin s m e) nan f g h k l = absurd k
gap_units (fin s m e) (inf t) f g h k l = absurd k
gap_units (fin s m e) (fin t n d) f g h k l =
    let a = m * up e * down d in
    let b = n * up d * down e in
    let c = down e * down d in
    signs s t a b c (mul-pos (down_pos e) (down_pos d)) (over_left (m * up e) (down e) (down d) (whole_fits s m e f)) (over_right (n * up d) (down d) (down e) (whole_fits t n d g)) l

-- ---- so the rounded difference is the smallest f32 at least
abbrev smallest : Float
smallest = fin false 1 (negsuc 148)

smallest_round : round binary32 false 1 (2 ^ 149) ≡ smallest
unfolding round
smallest_round = refl

above_lt : (z : Float) → T (above z) → lt (fin false 0 (pos 0)) z ≡ true
unfolding lt
above_lt nan h = absurd h
above_lt (inf s) h = is_true (not s) h
above_lt (fin true m e) h = absurd h
above_lt (fin false m e) h =
    subst (λ (z : ℕ). ltb z (m * up e * 1) ≡ true) (sym (zero-mul (down e))) (lt-ltb 0 (m * up e * 1) (mul-pos (mul-pos (ltb→lt 0 m h) (up_pos e)) (zero-lt-suc 0)))

pub gap_above : (x y : Float) → T (fits binary32 x) → T (fits binary32 y) → T (finite x) → T (finite y) → lt y x ≡ true → lt (fin false 0 (pos 0)) (sub binary32 x y) ≡ true
gap_above x y f g h k l =
    let u = gap_units x y f g h k l in
    let a = u.0 in
    let c = u.1 in
    let r : T (le smallest (round binary32 false a c)) =
    subst (λ (z : Float). T (le z (round binary32 false a c))) smallest_round (round_mono binary32 1 (2 ^ 149) a c (pow_pos 149) u.2 (le_trans (le_of_eq (one-mul c)) u.3)) in
    above_lt (sub binary32 x y) (subst (λ (z : Float). T (above z)) (sym u.4) (above_of_le smallest (round binary32 false a c) tt r))
