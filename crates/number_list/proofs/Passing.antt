-- A text that passes: the numbers that are read of it are those of its outcome, one for each item, and each is finite. Assumes nothing.
use Rattle.std.specs.Prelude.{None, Option, Some}
use Prim.Native.Nat.{ℕ, ◌≤◌}
use native.Mathlib.Omega.{arith}
use mathlib.Core.Path.{◌≡◌, refl, sym, ap, ap₂, ◌∙◌, subst}
use mathlib.Core.Bool.{Bool, true, false, ◌&&◌, cond}
use mathlib.Core.List.{List, [], ◌∷◌, map}
use lib.ListN.{length}
use lib.Dec.{T, ltb}
use borrow.Author.Tests.{ltb-false}
use lib.Ieee.{Float}
use lib.Ieee.Bits.{is_true}
use lib.Ieee.Fits.{and_l, and_r}
use Rattle.num.specs.Constants.{plus_zero}
use Rattle.num.specs.Narrowed.{or_zero}
use Rattle.num.proofs.Finite.{or_zero_is}
use Rattle.decimal.specs.Grammar.{TypedItem, item_of}
use Rattle.decimal.specs.Limits.{in_limits}
use Rattle.decimal.specs.Value.{item_value, item_value_in}
use Rattle.decimal.proofs.Bounds.{word_finite}
use Rattle.number_list.specs.declared.Before.{Before}
use Rattle.number_list.specs.declared.Before.TheVariants as before
use Rattle.number_list.specs.Text.{Part, comma_part, word_part, parts, and_more, items_from, items_of}
use Rattle.number_list.specs.Outcome.{outside_grammar, outside_limits, passed, all_in_limits, items_outcome, text_outcome, words_in, word_value, typed_numbers}
use Rattle.number_list.proofs.Steps.{item_more}

-- ---- finite
words_kept : (ws : List (List ℕ)) → map or_zero (map word_value ws) ≡ map word_value ws
words_kept [] = refl
words_kept (w ∷ ws) = ap₂ (λ (x : Float) (xs : List Float). x ∷ xs) (or_zero_is (word_value w) (is_true _ (word_finite w))) (words_kept ws)

-- reading a typed list changes nothing of it
pub typed_kept : (t : List ℕ) → map or_zero (typed_numbers t) ≡ typed_numbers t
typed_kept t = words_kept (words_in (parts t))

-- ---- worth
one_worth : (w : List ℕ) (i : TypedItem) → item_of w ≡ Some i → in_limits i ≡ true → word_value w ≡ item_value i
unfolding item_value_in
one_worth w i e r = ap item_value_in e ∙ ap (λ (b : Bool). cond b (item_value i) plus_zero) r

more_worth : (w : List ℕ) (ws : List (List ℕ)) (o : Option TypedItem) (r : Option (List TypedItem)) (is : List TypedItem) → item_of w ≡ o → and_more o r ≡ Some is → all_in_limits is ≡ true
    → ((js : List TypedItem) → r ≡ Some js → all_in_limits js ≡ true → map word_value ws ≡ map item_value js) → map word_value (w ∷ ws) ≡ map item_value is
unfolding and_more all_in_limits
more_worth w ws None r is f e a ih = cc
more_worth w ws (Some i) None is f e a ih = cc
more_worth w ws (Some i) (Some js) is f e a ih =
    let g : i ∷ js ≡ is = cc in
    let b : T (in_limits i && all_in_limits js) = subst T (sym (ap all_in_limits g ∙ a)) tt in
    ap₂ (λ (x : Float) (xs : List Float). x ∷ xs)
    (one_worth w i f (is_true _ (and_l (in_limits i) (all_in_limits js) b)))
    (ih js refl (is_true _ (and_r (in_limits i) (all_in_limits js) b)))
    ∙ ap (map item_value) g

-- the items of parts, each within the limits, are worth the numbers of their words
worth : (b : Before) (ps : List Part) (is : List TypedItem) → items_from b ps ≡ Some is → all_in_limits is ≡ true → map word_value (words_in ps) ≡ map item_value is
unfolding items_from words_in
worth before.Start [] is e a = let g : [] ≡ is = cc in ap (map item_value) g
worth before.Item [] is e a = let g : [] ≡ is = cc in ap (map item_value) g
worth before.Comma [] is e a = cc
worth before.Start (comma_part ∷ ps) is e a = cc
worth before.Item (comma_part ∷ ps) is e a = worth before.Comma ps is e a
worth before.Comma (comma_part ∷ ps) is e a = cc
worth b (word_part w ∷ ps) is e a =
    more_worth w (words_in ps) (item_of w) (items_from before.Item ps) is refl (sym (item_more b w ps) ∙ e) a (λ js f g. worth before.Item ps js f g)

-- ---- the whole text

-- a text that is not refused: it is in the grammar, with at most 1,024 items, each within the limits; xs is what they are worth, and what is read
pub record Passing (t : List ℕ) (xs : List Float) : Type 0 where
  pub items : List TypedItem
  pub listed : items_of t ≡ Some items
  pub few : length items ≤ 1024
  pub limits : all_in_limits items ≡ true
  pub worth : xs ≡ map item_value items
  pub read : typed_numbers t ≡ xs

module _ (t : List ℕ) (xs : List Float) where
  by_tests : (is : List TypedItem) → items_of t ≡ Some is → (over within : Bool) → ltb 1024 (length is) ≡ over → all_in_limits is ≡ within
      → cond over outside_grammar (cond within (passed (map item_value is)) outside_limits) ≡ passed xs → Passing t xs
  by_tests is f true within o w e = absurd (let z : ◌≡◌ {A = ℕ} 0 1 = cc in omega arith)
  by_tests is f false false o w e = absurd (let z : ◌≡◌ {A = ℕ} 0 1 = cc in omega arith)
  by_tests is f false true o w e =
      let x : map item_value is ≡ xs = cc in
      record {
        items = is;
        listed = f;
        few = ltb-false 1024 (length is) o;
        limits = w;
        worth = sym x;
        read = worth before.Start (parts t) is f w ∙ x;
      }

  by_items : (o : Option (List TypedItem)) → items_of t ≡ o → items_outcome o ≡ passed xs → Passing t xs
  unfolding items_outcome
  by_items None f e = absurd (let z : ◌≡◌ {A = ℕ} 0 1 = cc in omega arith)
  by_items (Some is) f e = by_tests is f (ltb 1024 (length is)) (all_in_limits is) refl refl e

  pub passing : text_outcome t ≡ passed xs → Passing t xs
  passing e = by_items (items_of t) refl e
