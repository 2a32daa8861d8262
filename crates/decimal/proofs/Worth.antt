-- What the code keeps of an item, its digits and its exponent held at 10 ^ 15, says whether the item is within the limits and what it is worth: a number
-- that is held is outside the limits, and so is the item. Assumes nothing.
use Rattle.std.specs.Prelude.{Err, None, Ok, Option, Some}
use Prim.Native.Nat.{ℕ, ◌+◌, ◌-◌, ◌*◌, ◌^◌, ◌≤◌, ◌<◌, suc, min}
use native.Mathlib.Nat.{le_trans, le_of_lt, not-le_of_lt}
use native.Mathlib.Omega.{arith}
use mathlib.Core.Path.{◌≡◌, refl, sym, ap, ◌∙◌}
use mathlib.Core.Logic.{◌⊎◌, inl, inr}
use mathlib.Core.Bool.{Bool, true, false, ◌&&◌, cond}
use lib.Dec.{T, leb, ltb}
use borrow.Author.Tests.{le-leb, lt-leb}
use lib.IntN.{pos, ◌-ℤ◌}
use lib.Ieee.{binary64, round}
use lib.Ieee.Bits.{is_true}
use Rattle.num.specs.Constants.{plus_zero}
use Rattle.num.specs.Narrowed.{narrowed, or_zero}
use Rattle.num.proofs.Laws.{by_le}
use Rattle.num.proofs.Finite.{or_zero_is}
use mathlib.Core.List.{List}
use lib.ListN.{length}
use Rattle.decimal.specs.Grammar.{TypedItem, item_of}
use Rattle.decimal.specs.Limits.{whole, digit_count, power_up, power_down, in_limits}
use Rattle.decimal.specs.Value.{item_value, item_value_in}
use Rattle.decimal.specs.Means.{limit, held_item, held_in, item_check, all_digits, raised, lowered, signed_exponent, in_limits_held, double_held, value_held}
use Rattle.decimal.specs.declared.Decimal.{Decimal}
use Rattle.decimal.proofs.Bounds.{limited, value_rounded, value_finite}
use Rattle.decimal.proofs.Counts.{count_is}
use Rattle.decimal.proofs.Powers.{power_is}
use Rattle.decimal.proofs.Items.{Good, good_number}
use Rattle.decimal.specs.declared.TextFault.TheVariants as fault

-- ---- the limits
same_le : (a b c d : ℕ) → (a ≤ b → c ≤ d) → (c ≤ d → a ≤ b) → leb a b ≡ leb c d
same_le a b c d f g = go (by_le a b) (by_le c d)
  where
    go : (a ≤ b) ⊎ (b < a) → (c ≤ d) ⊎ (d < c) → leb a b ≡ leb c d
    go (inl h) k = le-leb a b h ∙ sym (le-leb c d (f h))
    go (inr h) (inl k) = absurd (not-le_of_lt h (g k))
    go (inr h) (inr k) = lt-leb a b h ∙ sym (lt-leb c d k)

digits_held : (x : ℕ) → ltb (min x limit) limit ≡ ltb x limit
digits_held x = same_le (suc (min x limit)) limit (suc x) limit (λ h. omega arith) (λ h. omega arith)

-- k decimals and the exponent e
module _ (k e : ℕ) (h : k ≤ 65535) where
  up_plus : leb (min e limit - (k + 0)) 22 ≡ leb e (k + 0 + 22)
  up_plus = same_le (min e limit - (k + 0)) 22 e (k + 0 + 22) (λ p. omega arith) (λ p. omega arith)

  down_plus : leb (k + 0 - min e limit) 22 ≡ leb (k + 0) (e + 22)
  down_plus = same_le (k + 0 - min e limit) 22 (k + 0) (e + 22) (λ p. omega arith) (λ p. omega arith)

  up_minus : leb (0 - (k + min e limit)) 22 ≡ leb 0 (k + e + 22)
  up_minus = same_le (0 - (k + min e limit)) 22 0 (k + e + 22) (λ p. omega arith) (λ p. omega arith)

  down_minus : leb (k + min e limit - 0) 22 ≡ leb (k + e) (0 + 22)
  down_minus = same_le (k + min e limit - 0) 22 (k + e) (0 + 22) (λ p. omega arith) (λ p. omega arith)

  power_held : (l : Bool)
      → (leb (cond l 0 (min e limit) - (k + cond l (min e limit) 0)) 22 && leb (k + cond l (min e limit) 0 - cond l 0 (min e limit)) 22)
      ≡ (leb (cond l 0 e) (k + cond l e 0 + 22) && leb (k + cond l e 0) (cond l 0 e + 22))
  power_held true = rw (up_minus, down_minus)
  power_held false = rw (up_plus, down_plus)

limits_held : (i : TypedItem) → T (all_digits i.digits) → i.decimals ≤ 65535 → in_limits_held (held_item i) ≡ in_limits i
unfolding in_limits_held in_limits
limits_held i t h =
    let z = (held_item i).power in
    let p = power_is i.exponent_minus (min (whole i.exponent) limit) i.decimals in
    ap (λ (b : Bool). b && (leb (raised z) 22 && leb (lowered z) 22)) (digits_held (whole i.digits) ∙ sym (count_is i.digits t))
    ∙ ap (λ (b : Bool). leb (digit_count i.digits) 15 && b)
    (ap (λ (n : ℕ). leb n 22 && leb (lowered z) 22) p.0 ∙ ap (λ (n : ℕ). leb (power_up_min i - power_down_min i) 22 && leb n 22) p.1
    ∙ power_held i.decimals (whole i.exponent) h i.exponent_minus)
  where
    power_up_min : TypedItem → ℕ
    power_up_min i = cond i.exponent_minus 0 (min (whole i.exponent) limit)

    power_down_min : TypedItem → ℕ
    power_down_min i = i.decimals + cond i.exponent_minus (min (whole i.exponent) limit) 0

-- ---- the number
not_held : (x : ℕ) → x ≤ limit → min x limit ≡ x
not_held x h = omega arith

-- an item within the limits has an exponent that is not held
small_exponent : (k e : ℕ) (l : Bool) → k ≤ 65535 → cond l 0 e ≤ k + cond l e 0 + 22 → k + cond l e 0 ≤ cond l 0 e + 22 → e ≤ limit
small_exponent k e true h p q = omega arith
small_exponent k e false h p q = omega arith

same_double : (i : TypedItem) → min (whole i.digits) limit ≡ whole i.digits → min (whole i.exponent) limit ≡ whole i.exponent
    → narrowed (double_held (held_item i)) ≡ item_value i
unfolding double_held
same_double i e f =
    let p = power_is i.exponent_minus (whole i.exponent) i.decimals in
    rw (value_rounded i, e, f) (ap (λ (n : ℕ). narrowed (round binary64 i.minus (whole i.digits * 10 ^ n) (10 ^ lowered (signed_exponent i.exponent_minus (whole i.exponent) -ℤ pos i.decimals)))) p.0
    ∙ ap (λ (n : ℕ). narrowed (round binary64 i.minus (whole i.digits * 10 ^ (power_up i - power_down i)) (10 ^ n))) p.1)

value_held_lem : (i : TypedItem) → T (all_digits i.digits) → i.decimals ≤ 65535 → value_held (held_item i) ≡ item_value_in (Some i)
unfolding value_held item_value_in
value_held_lem i t h =
    ap (λ (b : Bool). cond b (or_zero (narrowed (double_held (held_item i)))) plus_zero) (limits_held i t h)
    ∙ go (in_limits i) refl
  where
    go : (b : Bool) → in_limits i ≡ b → cond b (or_zero (narrowed (double_held (held_item i)))) plus_zero ≡ cond b (item_value i) plus_zero
    go false e = refl
    go true e =
        let l = limited i t e in
        let x = small_exponent i.decimals (whole i.exponent) i.exponent_minus h l.up l.down in
        ap or_zero (same_double i (not_held (whole i.digits) (le_of_lt l.below)) (not_held (whole i.exponent) x))
        ∙ or_zero_is (item_value i) (is_true _ (value_finite i t e))

-- ---- a word, by what the code made of it
pub word_none : (o : Option TypedItem) → None ≡ held_in o → (Err fault.OutsideGrammar) ≡ item_check o
unfolding item_check
word_none None e = refl
word_none (Some i) e = cc

pub value_none : (o : Option TypedItem) → None ≡ held_in o → plus_zero ≡ item_value_in o
unfolding item_value_in
value_none None e = refl
value_none (Some i) e = cc

module _ (n : ℕ) (h : n ≤ 65535) where
  word_some : (o : Option TypedItem) (d : Decimal) → Good n o → Some d ≡ held_in o → cond (in_limits_held d) (Ok tt) (Err fault.OutsideLimits) ≡ item_check o
  unfolding Good item_check
  word_some None d g e = cc
  word_some (Some i) d g e =
      let f : d ≡ held_item i = cc in
      ap (λ (b : Bool). cond b (Ok tt) (Err fault.OutsideLimits)) (ap in_limits_held f ∙ limits_held i g.0 (le_trans g.1 h))

  value_some : (o : Option TypedItem) (d : Decimal) → Good n o → Some d ≡ held_in o → value_held d ≡ item_value_in o
  unfolding Good
  value_some None d g e = cc
  value_some (Some i) d g e =
      let f : d ≡ held_item i = cc in
      ap value_held f ∙ value_held_lem i g.0 (le_trans g.1 h)

-- the same of a word that is read
module _ (t : List ℕ) (short : length t < 65536) (d : Decimal) (e : Some d ≡ held_in (item_of t)) where
  fits : length t ≤ 65535
  fits = omega arith

  word_at : cond (in_limits_held d) (Ok tt) (Err fault.OutsideLimits) ≡ item_check (item_of t)
  word_at = word_some (length t) fits _ d (good_number t) e

  pub word_within : true ≡ in_limits_held d → Ok tt ≡ item_check (item_of t)
  word_within w = ap (λ (b : Bool). cond b (Ok tt) (Err fault.OutsideLimits)) w ∙ word_at

  pub word_outside : false ≡ in_limits_held d → Err fault.OutsideLimits ≡ item_check (item_of t)
  word_outside w = ap (λ (b : Bool). cond b (Ok tt) (Err fault.OutsideLimits)) w ∙ word_at

  pub value_at : value_held d ≡ item_value_in (item_of t)
  value_at = value_some (length t) fits _ d (good_number t) e
