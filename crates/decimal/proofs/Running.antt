-- A run of digits, one after the other: what is known on the way, and at its end. Assumes nothing.
use Prim.Native.Nat.{ℕ, suc, ◌+◌, ◌-◌, ◌*◌, ◌≤◌, ◌<◌, min}
use native.Mathlib.Omega.{arith}
use mathlib.Core.Path.{◌≡◌, refl, sym, ap, ◌∙◌, subst}
use mathlib.Core.Bool.{true, false}
use mathlib.Core.List.{List, [], ◌∷◌}
use native.Mathlib.Numerals.{add-one}
use lib.ListN.{get_or, length, drop}
use lib.Seq.{drop-cons}
use Rattle.std.proofs.lemmas.List.{drop_all}
use Rattle.std.specs.Char.{is_ascii_digit}
use Rattle.decimal.specs.Grammar.{is_digit, leading_digits, after_digits}
use Rattle.decimal.specs.Limits.{whole_from}
use Rattle.decimal.specs.Means.{limit, DigitsOf}

-- a number that is held goes on as the number itself, up to the limit
hold : (w d : ℕ) → min (w * 10 + d) limit ≡ min (min w limit * 10 + d) limit
hold w d = omega arith

pub held_on : (w : ℕ) (ds : List ℕ) → min (whole_from w ds) limit ≡ min (whole_from (min w limit) ds) limit
unfolding whole_from
held_on w [] = twice w
  where
    twice : (w : ℕ) → min w limit ≡ min (min w limit) limit
    twice w = omega arith
held_on w (d ∷ ds) =
    held_on (w * 10 + (d - 48)) ds
    ∙ ap (λ (x : ℕ). min (whole_from x ds) limit) (hold w (d - 48))
    ∙ sym (held_on (min w limit * 10 + (d - 48)) ds)

-- the library's test of a digit is the grammar's
pub digit_same : (b : ℕ) → is_ascii_digit b ≡ is_digit b
unfolding is_digit
digit_same b = refl

module _ (t : List ℕ) (k : ℕ) (h : k < length t) where
  digits_more : is_digit (get_or t k 0) ≡ true → leading_digits (drop k t) ≡ get_or t k 0 ∷ leading_digits (drop (suc k) t)
  unfolding leading_digits
  digits_more d = rw (drop-cons t k 0 h, d)

  digits_stop : is_digit (get_or t k 0) ≡ false → leading_digits (drop k t) ≡ []
  unfolding leading_digits
  digits_stop d = rw (drop-cons t k 0 h, d)

  past_more : is_digit (get_or t k 0) ≡ true → after_digits (drop k t) ≡ after_digits (drop (suc k) t)
  unfolding after_digits
  past_more d = rw (drop-cons t k 0 h, d)

  past_stop : is_digit (get_or t k 0) ≡ false → after_digits (drop k t) ≡ drop k t
  unfolding after_digits
  past_stop d = rw (drop-cons t k 0 h, d)

digits_end : leading_digits [] ≡ []
unfolding leading_digits
digits_end = refl

past_end : after_digits [] ≡ []
unfolding after_digits
past_end = refl

-- k digits after w have been passed, and give the number v
pub record Going (t : List ℕ) (w k v : ℕ) : Type 0 where
  pub within : k ≤ length t
  pub low : v ≤ limit
  pub many : length (leading_digits t) ≡ k + length (leading_digits (drop k t))
  pub number : min (whole_from w (leading_digits t)) limit ≡ min (whole_from v (leading_digits (drop k t))) limit
  pub next : after_digits t ≡ after_digits (drop k t)

module _ (t : List ℕ) (w k v : ℕ) (g : Going t w k v) where
  pub going_step : (x : ℕ) → k < length t → is_digit (get_or t k 0) ≡ true → x ≡ min (v * 10 + (get_or t k 0 - 48)) limit → Going t w (k + 1) x
  unfolding whole_from
  going_step x h d e =
      let a : k + 1 ≡ suc k = add-one k in
      let m : length (leading_digits (drop k t)) ≡ suc (length (leading_digits (drop (suc k) t))) = ap length (digits_more t k h d) in
      let n : length (leading_digits t) ≡ suc k + length (leading_digits (drop (suc k) t)) = omega (arith, g.many, m) in
      record {
        within = omega arith;
        low = omega (arith, e);
        many = rw a n;
        number =
            rw a
            (g.number
            ∙ ap (λ (ds : List ℕ). min (whole_from v ds) limit) (digits_more t k h d)
            ∙ held_on (v * 10 + (get_or t k 0 - 48)) (leading_digits (drop (suc k) t))
            ∙ ap (λ (z : ℕ). min (whole_from z (leading_digits (drop (suc k) t))) limit) (sym e));
        next = rw a (g.next ∙ past_more t k h d);
      }

  done : leading_digits (drop k t) ≡ [] → after_digits (drop k t) ≡ drop k t → DigitsOf t w k v
  unfolding whole_from
  done d q =
      let z : length (leading_digits (drop k t)) ≡ 0 = ap length d in
      let l = g.low in
      let h : min v limit ≡ v = omega arith in
      record {
        within = g.within;
        many = omega (arith, g.many);
        low = g.low;
        number = sym (g.number ∙ ap (λ (ds : List ℕ). min (whole_from v ds) limit) d ∙ h);
        next = g.next ∙ q;
      }

  pub going_stop : k < length t → is_digit (get_or t k 0) ≡ false → DigitsOf t w k v
  going_stop h d = done (digits_stop t k h d) (past_stop t k h d)

  pub going_end : (n : ℕ) → length t ≡ n → n ≤ k → DigitsOf t w n v
  going_end n l h =
      let z : drop k t ≡ [] = drop_all k t (omega arith) in
      let e : k ≡ n = omega (arith, g.within) in
      subst (λ (n : ℕ). DigitsOf t w n v) e (done (rw z digits_end) (rw z past_end))

pub going_start : (t : List ℕ) (w : ℕ) → w ≤ limit → Going t w 0 w
going_start t w h = record { within = omega arith; low = h; many = omega arith; number = refl; next = refl }
