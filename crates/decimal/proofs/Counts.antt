-- Digits are at most 15, leading zeros not counted, exactly if their number is below 10 ^ 15: with a first digit that is not 0, n digits are a number from
-- 10 ^ (n - 1) to below 10 ^ n. Assumes nothing.
use Prim.Native.Nat.{ℕ, suc, ◌+◌, ◌-◌, ◌*◌, ◌^◌, ◌≤◌, ◌<◌}
use native.Mathlib.Nat.{le_trans, le_of_eq, le-add_right, lt_of_lt_of_le, mul-le-mul_right, mul_assoc, one-mul, pow-succ', pow-le-pow_right}
use native.Mathlib.Omega.{arith}
use mathlib.Core.Path.{◌≡◌, refl, sym, ap, ◌∙◌}
use mathlib.Core.Logic.{◌⊎◌, inl, inr}
use mathlib.Core.Bool.{Bool, true, false, cond}
use mathlib.Core.List.{List, [], ◌∷◌}
use lib.ListN.{length}
use lib.Dec.{T, leb, ltb, eqb, leb→le}
use borrow.Author.Tests.{lt-ltb, le-ltb, le-leb, lt-leb, eqb-true, eqb-false}
use lib.Ieee.Fits.{and_l, and_r}
use Rattle.num.proofs.Laws.{by_le}
use Rattle.decimal.specs.Grammar.{is_digit}
use Rattle.decimal.specs.Limits.{whole_from, whole, digit_count}
use Rattle.decimal.specs.Means.{limit, all_digits}

pub digit_range : (d : ℕ) → T (is_digit d) → (48 ≤ d) × (d ≤ 57)
unfolding is_digit
digit_range d t = (leb→le 48 d (and_l (leb 48 d) (leb d 57) t), leb→le d 57 (and_r (leb 48 d) (leb d 57) t))

-- what digits add to the number w before them
whole_ge : (w : ℕ) (ds : List ℕ) → w * 10 ^ length ds ≤ whole_from w ds
unfolding whole_from
whole_ge w [] = le_of_eq (omega arith)
whole_ge w (d ∷ ds) =
    le_trans (le_of_eq (ap (λ (x : ℕ). w * x) (pow-succ' 10 (length ds)) ∙ sym (mul_assoc w 10 (10 ^ length ds))))
    (le_trans (mul-le-mul_right (10 ^ length ds) (le-add_right (w * 10) (d - 48))) (whole_ge (w * 10 + (d - 48)) ds))

whole_lt : (w : ℕ) (ds : List ℕ) → T (all_digits ds) → whole_from w ds < suc w * 10 ^ length ds
unfolding whole_from all_digits
whole_lt w [] t = one w
  where
    one : (w : ℕ) → w < suc w * 1
    one w = omega arith
whole_lt w (d ∷ ds) t =
    lt_of_lt_of_le (whole_lt (w * 10 + (d - 48)) ds (and_r (is_digit d) (all_digits ds) t))
    (le_trans (mul-le-mul_right (10 ^ length ds) (next (digit_range d (and_l (is_digit d) (all_digits ds) t))))
    (le_of_eq (mul_assoc (suc w) 10 (10 ^ length ds) ∙ ap (λ (x : ℕ). suc w * x) (sym (pow-succ' 10 (length ds))))))
  where
    next : (48 ≤ d) × (d ≤ 57) → suc (w * 10 + (d - 48)) ≤ suc w * 10
    next r = omega arith

-- a first digit x that is not 0, and then ds
first : (x : ℕ) (ds : List ℕ) → 0 < x → x ≤ 9 → T (all_digits ds) → leb (suc (length ds)) 15 ≡ ltb (whole_from x ds) limit
first x ds p q t = go (by_le (suc (length ds)) 15)
  where
    go : (suc (length ds) ≤ 15) ⊎ (15 < suc (length ds)) → leb (suc (length ds)) 15 ≡ ltb (whole_from x ds) limit
    go (inl h) =
        let x' : suc x ≤ 10 = omega arith in
        let a : suc x * 10 ^ length ds ≤ 10 * 10 ^ length ds = mul-le-mul_right (10 ^ length ds) x' in
        let b : 10 * 10 ^ length ds ≤ 10 ^ 15 = le_trans (le_of_eq (sym (pow-succ' 10 (length ds)))) (pow-le-pow_right {n = 10} (omega arith) h) in
        le-leb (suc (length ds)) 15 h ∙ sym (lt-ltb (whole_from x ds) limit (lt_of_lt_of_le (whole_lt x ds t) (le_trans a b)))
    go (inr h) =
        let n : 15 ≤ length ds = omega arith in
        let a : 10 ^ 15 ≤ 10 ^ length ds = pow-le-pow_right {n = 10} (omega arith) n in
        let b : 1 * 10 ^ length ds ≤ x * 10 ^ length ds = mul-le-mul_right (10 ^ length ds) p in
        lt-leb (suc (length ds)) 15 h ∙ sym (le-ltb (whole_from x ds) limit (le_trans a (le_trans (le_of_eq (sym (one-mul (10 ^ length ds)))) (le_trans b (whole_ge x ds)))))

pub count_is : (ds : List ℕ) → T (all_digits ds) → leb (digit_count ds) 15 ≡ ltb (whole ds) limit
unfolding digit_count whole_from all_digits
count_is [] t = refl
count_is (d ∷ ds) t = go (digit_range d (and_l (is_digit d) (all_digits ds) t)) (and_r (is_digit d) (all_digits ds) t) (λ k. count_is ds k) (eqb d 48) refl
  where
    zero_first : d ≡ 48 → 0 * 10 + (d - 48) ≡ 0
    zero_first e = omega arith

    go : (48 ≤ d) × (d ≤ 57) → T (all_digits ds) → (T (all_digits ds) → leb (digit_count ds) 15 ≡ ltb (whole ds) limit) → (b : Bool) → eqb d 48 ≡ b
        → leb (cond b (digit_count ds) (length (d ∷ ds))) 15 ≡ ltb (whole_from (0 * 10 + (d - 48)) ds) limit
    go r k ih true e = ih k ∙ ap (λ (x : ℕ). ltb (whole_from x ds) limit) (sym (zero_first (eqb-true d 48 e)))
    go r k ih false e =
        let n = eqb-false d 48 e in
        first (0 * 10 + (d - 48)) ds (omega arith) (omega arith) k
