-- What is read as a list is a text of the grammar of lists, with these items: by the length of the text, one byte of white space, a comma or a word after
-- the other. Assumes nothing.
use Rattle.std.specs.Prelude.{None, Option, Some}
use Prim.Native.Nat.{ℕ, zero, suc, ◌≤◌}
use native.Mathlib.Nat.{le_of_suc-le-suc, le_trans, le_refl, le-suc, not-suc-le-zero}
use mathlib.Core.Path.{◌≡◌, refl, sym, ap, ◌∙◌, subst}
use mathlib.Core.Bool.{Bool, true, false, cond, true≢false}
use mathlib.Core.List.{List, [], ◌∷◌, ◌++◌, append_assoc}
use lib.ListN.{length}
use lib.Dec.{T, eqb}
use borrow.Author.Tests.{eqb-true}
use Rattle.decimal.specs.Grammar.{TypedItem, item_of}
use Rattle.number_list.specs.declared.Before.{Before}
use Rattle.number_list.specs.declared.Before.TheVariants as before
use Rattle.number_list.specs.Text.{comma_part, is_space, in_word, begins, parts, and_more, items_from, items_of}
use Rattle.number_list.proofs.Splits.{first_word, after_first_word, parts_word, parts_space}
use Rattle.number_list.proofs.Steps.{item_more}
use Rattle.number_grammar.specs.Production.{Number}
use Rattle.number_grammar.specs.Listing.{Gap, no_gap, gap, Parting, spaced, comma, Items, one_item, more_items, Listed, empty, listed}
use Rattle.number_grammar.proofs.Correct.{item_correct}
use Rattle.number_grammar.proofs.ListComplete.{number_begins, begins_append}

-- ---- the word that a text begins with, and what follows it
split : (t : List ℕ) → t ≡ first_word t ++ after_first_word t
unfolding first_word after_first_word
split [] = refl
split (b ∷ t) = go (in_word b) (split t)
  where
    go : (q : Bool) → t ≡ first_word t ++ after_first_word t → b ∷ t ≡ cond q (b ∷ first_word t) [] ++ cond q (after_first_word t) (b ∷ t)
    go true e = ap (λ (l : List ℕ). b ∷ l) e
    go false e = refl

rest_begins : (t : List ℕ) → begins (after_first_word t) ≡ false
unfolding after_first_word begins
rest_begins [] = refl
rest_begins (b ∷ t) = go (in_word b) refl (rest_begins t)
  where
    go : (q : Bool) → in_word b ≡ q → begins (after_first_word t) ≡ false → begins (cond q (after_first_word t) (b ∷ t)) ≡ false
    go true e h = h
    go false e h = e

rest_short : (t : List ℕ) → length (after_first_word t) ≤ length t
unfolding after_first_word
rest_short [] = le_refl 0
rest_short (b ∷ t) = go (in_word b) (rest_short t)
  where
    go : (q : Bool) → length (after_first_word t) ≤ length t → length (cond q (after_first_word t) (b ∷ t)) ≤ suc (length t)
    go true h = le_trans h (le-suc (length t))
    go false h = le_refl (suc (length t))

rest_less : (b : ℕ) (t : List ℕ) → in_word b ≡ true → length (after_first_word (b ∷ t)) ≤ length t
unfolding after_first_word
rest_less b t e = rw e (rest_short t)

in_word_lem : (b : ℕ) → is_space b ≡ false → eqb b 44 ≡ false → in_word b ≡ true
unfolding in_word
in_word_lem b e f = rw (e, f)

-- ---- what may stand after an item, and after a comma
data Core : List ℕ → List TypedItem → Type 0 where
  core : {u h : List ℕ} {is : List TypedItem} → Items u is → Gap h → Core (u ++ h) is

data Follow : List ℕ → List TypedItem → Type 0 where
  ends : {t : List ℕ} → Gap t → Follow t []
  direct : {t : List ℕ} {is : List TypedItem} → Core t is → Follow t is
  parted : {p t : List ℕ} {is : List TypedItem} → Parting p → Core t is → Follow (p ++ t) is

data Led : List ℕ → List TypedItem → Type 0 where
  led : {g t : List ℕ} {is : List TypedItem} → Gap g → Core t is → Led (g ++ t) is

Rest : Before → List ℕ → List TypedItem → Type 0
Rest before.Start t is = Listed t is
Rest before.Item t is = Follow t is
Rest before.Comma t is = Led t is

listed_core : {g t : List ℕ} {is : List TypedItem} → Gap g → Core t is → Listed (g ++ t) is
listed_core r (core n q) = listed r n q

core_rest : (b : Before) {t : List ℕ} {is : List TypedItem} → Core t is → Rest b t is
unfolding Rest
core_rest before.Start c = listed_core no_gap c
core_rest before.Item c = direct c
core_rest before.Comma c = led no_gap c

-- white space before it
space_listed : {c : ℕ} {t : List ℕ} {is : List TypedItem} → T (is_space c) → Listed t is → Listed (c ∷ t) is
space_listed h (empty r) = empty (gap h r)
space_listed h (listed r n q) = listed (gap h r) n q

space_parted : {c : ℕ} {p t : List ℕ} {is : List TypedItem} → T (is_space c) → Parting p → Core t is → Follow (c ∷ (p ++ t)) is
space_parted h (spaced k r) m = parted (spaced h (gap k r)) m
space_parted h (comma r s) m = parted (comma (gap h r) s) m

space_follow : {c : ℕ} {t : List ℕ} {is : List TypedItem} → T (is_space c) → Follow t is → Follow (c ∷ t) is
space_follow h (ends r) = ends (gap h r)
space_follow h (direct m) = parted (spaced h no_gap) m
space_follow h (parted p m) = space_parted h p m

space_led : {c : ℕ} {t : List ℕ} {is : List TypedItem} → T (is_space c) → Led t is → Led (c ∷ t) is
space_led h (led r m) = led (gap h r) m

space_rest : (b : Before) (c : ℕ) (t : List ℕ) (is : List TypedItem) → T (is_space c) → Rest b t is → Rest b (c ∷ t) is
unfolding Rest
space_rest before.Start c t is h r = space_listed h r
space_rest before.Item c t is h r = space_follow h r
space_rest before.Comma c t is h r = space_led h r

-- a comma before it
comma_follow : {t : List ℕ} {is : List TypedItem} → Led t is → Follow (44 ∷ t) is
comma_follow (led r m) = parted (comma no_gap r) m

-- a word before it
items_begin : {u : List ℕ} {is : List TypedItem} → Items u is → begins u ≡ true
items_begin (one_item n) = number_begins n
items_begin (more_items {w} {p} {t} n q r) = begins_append w (p ++ t) (number_begins n)

core_begins : {t : List ℕ} {is : List TypedItem} → Core t is → begins t ≡ true
core_begins (core {u} {h} n q) = begins_append u h (items_begin n)

more_core : {w p t : List ℕ} {i : TypedItem} {is : List TypedItem} → Number w i → Parting p → Core t is → Core (w ++ (p ++ t)) (i ∷ is)
more_core {w} {p} {i = i} {is = is} n q (core {u} {h} r g) =
    subst (λ (l : List ℕ). Core l (i ∷ is)) (append_assoc w (p ++ u) h ∙ ap (λ (l : List ℕ). w ++ l) (append_assoc p u h)) (core (more_items n q r) g)

word_core : {w t : List ℕ} {i : TypedItem} {is : List TypedItem} → Number w i → begins t ≡ false → Follow t is → Core (w ++ t) (i ∷ is)
word_core n e (ends r) = core (one_item n) r
word_core n e (direct m) = absurd (true≢false (sym (core_begins m) ∙ e))
word_core n e (parted q m) = more_core n q m

-- ---- one step
record Both (o : Option TypedItem) (r : Option (List TypedItem)) (is : List TypedItem) : Type 0 where
  item : TypedItem
  rest : List TypedItem
  first : o ≡ Some item
  others : r ≡ Some rest
  all : item ∷ rest ≡ is

both : (o : Option TypedItem) (r : Option (List TypedItem)) (is : List TypedItem) → and_more o r ≡ Some is → Both o r is
unfolding and_more
both None r is e = cc
both (Some i) None is e = cc
both (Some i) (Some js) is e = record { item = i; rest = js; first = refl; others = refl; all = cc }

end_rest : (b : Before) (is : List TypedItem) → items_from b [] ≡ Some is → Rest b [] is
unfolding items_from Rest
end_rest before.Start is e = let f : [] ≡ is = cc in subst (Listed []) f (empty no_gap)
end_rest before.Item is e = let f : [] ≡ is = cc in subst (Follow []) f (ends no_gap)
end_rest before.Comma is e = cc

comma_parts : (c : ℕ) (t : List ℕ) → is_space c ≡ false → eqb c 44 ≡ true → parts (c ∷ t) ≡ comma_part ∷ parts t
unfolding parts
comma_parts c t e f = rw (e, f)

first_begins : (c : ℕ) (t : List ℕ) → in_word c ≡ true → begins (c ∷ t) ≡ true
unfolding begins
first_begins c t e = e

module _ (n : ℕ) (ih : (b : Before) (t : List ℕ) (is : List TypedItem) → length t ≤ n → items_from b (parts t) ≡ Some is → Rest b t is) where
  comma_rest : (b : Before) (t : List ℕ) (is : List TypedItem) → length t ≤ n → items_from b (comma_part ∷ parts t) ≡ Some is → Rest b (44 ∷ t) is
  unfolding items_from Rest
  comma_rest before.Start t is h e = cc
  comma_rest before.Item t is h e = comma_follow (ih before.Comma t is h e)
  comma_rest before.Comma t is h e = cc

  word_rest : (b : Before) (c : ℕ) (t : List ℕ) (is : List TypedItem) → in_word c ≡ true → length t ≤ n → items_from b (parts (c ∷ t)) ≡ Some is → Rest b (c ∷ t) is
  unfolding Rest
  word_rest b c t is e h f =
      let w = first_word (c ∷ t) in
      let r = after_first_word (c ∷ t) in
      let g = both (item_of w) (items_from before.Item (parts r)) is (sym (ap (items_from b) (parts_word (c ∷ t) (first_begins c t e)) ∙ item_more b w (parts r)) ∙ f) in
      let k : Follow r g.rest = ih before.Item r g.rest (le_trans (rest_less c t e) h) g.others in
      let m : Core (w ++ r) (g.item ∷ g.rest) = word_core (item_correct w g.item g.first) (rest_begins (c ∷ t)) k in
      core_rest b (subst (λ (js : List TypedItem). Core (c ∷ t) js) g.all (subst (λ (l : List ℕ). Core l (g.item ∷ g.rest)) (sym (split (c ∷ t))) m))

  byte_rest : (b : Before) (c : ℕ) (t : List ℕ) (is : List TypedItem) → length t ≤ n → items_from b (parts (c ∷ t)) ≡ Some is → Rest b (c ∷ t) is
  byte_rest b c t is h e = go (is_space c) refl (eqb c 44) refl
    where
      go : (p : Bool) → is_space c ≡ p → (q : Bool) → eqb c 44 ≡ q → Rest b (c ∷ t) is
      go true p q f = space_rest b c t is (subst T (sym p) tt) (ih b t is h (sym (ap (items_from b) (parts_space c t p)) ∙ e))
      go false p true f =
          subst (λ (x : ℕ). Rest b (x ∷ t) is) (sym (eqb-true c 44 f)) (comma_rest b t is h (sym (ap (items_from b) (comma_parts c t p f)) ∙ e))
      go false p false f = word_rest b c t is (in_word_lem c p f) h e

-- ---- the whole text, by its length
nothing : (b : Before) (is : List TypedItem) → items_from b (parts []) ≡ Some is → Rest b [] is
unfolding parts
nothing b is e = end_rest b is e

base : (b : Before) (t : List ℕ) (is : List TypedItem) → length t ≤ 0 → items_from b (parts t) ≡ Some is → Rest b t is
base b [] is h e = nothing b is e
base b (c ∷ t) is h e = absurd (not-suc-le-zero h)

longer : (n : ℕ) → ((b : Before) (t : List ℕ) (is : List TypedItem) → length t ≤ n → items_from b (parts t) ≡ Some is → Rest b t is)
    → (b : Before) (t : List ℕ) (is : List TypedItem) → length t ≤ suc n → items_from b (parts t) ≡ Some is → Rest b t is
longer n ih b [] is h e = nothing b is e
longer n ih b (c ∷ t) is h e = byte_rest n ih b c t is (le_of_suc-le-suc h) e

rest_of : (n : ℕ) (b : Before) (t : List ℕ) (is : List TypedItem) → length t ≤ n → items_from b (parts t) ≡ Some is → Rest b t is
rest_of zero b t is h e = base b t is h e
rest_of (suc n) b t is h e = longer n (λ c u js g f. rest_of n c u js g f) b t is h e

pub list_correct : (t : List ℕ) (is : List TypedItem) → items_of t ≡ Some is → Listed t is
unfolding Rest
list_correct t is e = rest_of (length t) before.Start t is (le_refl (length t)) e
