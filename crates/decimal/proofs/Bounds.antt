-- An item that passes, that is, one within the limits: its exact value is below 10 ^ 37, and its f32 is finite (`word_bounded`). It has at most 15 digits
-- and a power of at most 22, so it is below 10 ^ 15 * 10 ^ 22, which is below 2 ^ 123, and neither rounding makes it twice as large. Assumes nothing.
use Rattle.std.specs.Prelude.{None, Option, Some}
use Prim.Native.Nat.{ℕ, ◌+◌, ◌-◌, ◌*◌, ◌^◌, ◌≤◌, ◌<◌}
use native.Mathlib.Nat.{le_trans, le_of_eq, lt_of_lt_of_le, mul-le-mul_left, mul-lt-mul_of_pos_right, mul-one, pow-le-pow_right}
use native.Mathlib.Omega.{arith}
use mathlib.Core.Path.{◌≡◌, refl, sym, ap, ◌∙◌, subst}
use mathlib.Core.Bool.{Bool, true, false, ◌&&◌, cond}
use mathlib.Core.List.{List}
use lib.ListN.{length}
use lib.Dec.{T, leb}
use lib.Ieee.{binary64, round}
use lib.Ieee.Scale.{finite}
use Rattle.num.specs.Constants.{plus_zero}
use Rattle.num.specs.Narrowed.{narrowed}
use Rattle.num.proofs.Finite.{zero_finite}
use Rattle.decimal.specs.Grammar.{TypedItem, item_of}
use Rattle.decimal.specs.Limits.{whole, power_up, power_down, in_limits}
use Rattle.decimal.specs.Value.{nearest_double, item_value, item_value_in}
use Rattle.decimal.specs.Means.{limit, all_digits}
use Rattle.decimal.proofs.Bounded.{narrowed_finite}
use Rattle.decimal.proofs.Counts.{count_is}
use Rattle.decimal.proofs.Held.{Within, within}
use Rattle.decimal.proofs.Items.{Good, good_number}
use Rattle.decimal.proofs.Tens.{ten_pos}

pub limited : (i : TypedItem) → T (all_digits i.digits) → in_limits i ≡ true → Within (whole i.digits) (power_up i) (power_down i)
unfolding in_limits
limited i t e =
    within (whole i.digits) (power_up i) (power_down i)
    (ap (λ (b : Bool). b && (leb (power_up i) (power_down i + 22) && leb (power_down i) (power_up i + 22))) (sym (count_is i.digits t)) ∙ e)

product_below : (n u d : ℕ) → n < limit → u ≤ d + 22 → n * 10 ^ (u - d) < 10 ^ 37 * 10 ^ (d - u)
product_below n u d h k =
    let j : u - d ≤ 22 = omega arith in
    let a : n * 10 ^ (u - d) < 10 ^ 15 * 10 ^ (u - d) = mul-lt-mul_of_pos_right h (ten_pos (u - d)) in
    let b : 10 ^ 15 * 10 ^ (u - d) ≤ 10 ^ 15 * 10 ^ 22 = mul-le-mul_left (10 ^ 15) (pow-le-pow_right {n = 10} (omega arith) j) in
    let c : 10 ^ 37 ≤ 10 ^ 37 * 10 ^ (d - u) = le_trans (le_of_eq (sym (mul-one (10 ^ 37)))) (mul-le-mul_left (10 ^ 37) (ten_pos (d - u))) in
    lt_of_lt_of_le a (le_trans b c)

-- the exact value of an item within the limits, ± whole digits * 10 ^ (power_up - power_down), is below 10 ^ 37
pub item_below : (i : TypedItem) → T (all_digits i.digits) → in_limits i ≡ true
    → whole i.digits * 10 ^ (power_up i - power_down i) < 10 ^ 37 * 10 ^ (power_down i - power_up i)
item_below i t e =
    let l = limited i t e in
    product_below (whole i.digits) (power_up i) (power_down i) l.below l.up

-- the number that it is worth: its exact value, rounded once to the nearest f64, ties to even, and narrowed
pub value_rounded : (i : TypedItem)
    → item_value i ≡ narrowed (round binary64 i.minus (whole i.digits * 10 ^ (power_up i - power_down i)) (10 ^ (power_down i - power_up i)))
unfolding item_value nearest_double
value_rounded i = refl

-- its f32 is finite
pub value_finite : (i : TypedItem) → T (all_digits i.digits) → in_limits i ≡ true → T (finite (item_value i))
value_finite i t e =
    rw (value_rounded i)
    (narrowed_finite i.minus (whole i.digits * 10 ^ (power_up i - power_down i)) (10 ^ (power_down i - power_up i)) (ten_pos (power_down i - power_up i)) (item_below i t e))

-- both, of the item that a word is
pub record Bounded (i : TypedItem) : Type 0 where
  pub below : whole i.digits * 10 ^ (power_up i - power_down i) < 10 ^ 37 * 10 ^ (power_down i - power_up i)
  pub finite_value : T (finite (item_value i))

some_bounded : (n : ℕ) (o : Option TypedItem) (i : TypedItem) → Good n o → o ≡ Some i → in_limits i ≡ true → Bounded i
unfolding Good
some_bounded n o i g f e =
    let h = subst (Good n) f g in
    record { below = item_below i h.0 e; finite_value = value_finite i h.0 e }

pub word_bounded : (w : List ℕ) (i : TypedItem) → item_of w ≡ Some i → in_limits i ≡ true → Bounded i
word_bounded w i f e = some_bounded (length w) (item_of w) i (good_number w) f e

-- the number that is read of any word is finite: where there is no item within the limits it is +0
read_finite : (n : ℕ) (o : Option TypedItem) → Good n o → T (finite (item_value_in o))
unfolding Good item_value_in
read_finite n None g = zero_finite
read_finite n (Some i) g = go (in_limits i) refl
  where
    go : (b : Bool) → in_limits i ≡ b → T (finite (cond b (item_value i) plus_zero))
    go true e = value_finite i g.0 e
    go false e = zero_finite

pub word_finite : (w : List ℕ) → T (finite (item_value_in (item_of w)))
word_finite w = read_finite (length w) (item_of w) (good_number w)
