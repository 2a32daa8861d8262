-- Every text of the grammar of lists is read as its items: no byte of a number is white space or a comma, so each word is one item. Assumes nothing.
use Rattle.std.specs.Prelude.{Option, Some as some}
use Prim.Native.Nat.{ℕ}
use native.Mathlib.Omega.{arith}
use mathlib.Core.Path.{◌≡◌, refl, sym, ap, ◌∙◌, subst}
use mathlib.Core.Bool.{Bool, true, false, ◌||◌}
use mathlib.Core.List.{List, [], ◌∷◌, ◌++◌, append-nil, append_assoc}
use lib.Dec.{T, eqb, eqb→eq}
use lib.Ieee.Bits.{is_true}
use borrow.Author.Tests.{ne_eqb}
use Rattle.decimal.specs.Grammar.{TypedItem, is_digit, is_e, item_of}
use Rattle.number_list.specs.declared.Before.{Before}
use Rattle.number_list.specs.declared.Before.TheVariants as before
use Rattle.number_list.specs.Text.{Part, comma_part, word_part, is_space, in_word, begins, parts, and_more, items_from, items_of}
use Rattle.number_list.proofs.Splits.{first_word, after_first_word, no_part, no_rest, parts_word}
use Rattle.number_list.proofs.Steps.{item_more}
use Rattle.decimal.proofs.Counts.{digit_range}
use Rattle.number_grammar.specs.Production.{Digits, no_digits, more_digits, Some, some_digits, Sign, no_sign, plus, minus, Exponent, no_exponent, exponent, Number, without_point, with_point}
use Rattle.number_grammar.specs.Listing.{Gap, no_gap, gap, Parting, spaced, comma, Items, one_item, more_items, Listed, empty, listed}
use Rattle.number_grammar.proofs.Complete.{item_complete}

-- ---- every byte of a number is one of a word
data Spelt : List ℕ → Type 0 where
  none_spelt : Spelt []
  spelt : {b : ℕ} {w : List ℕ} → in_word b ≡ true → Spelt w → Spelt (b ∷ w)

join : {v w : List ℕ} → Spelt v → Spelt w → Spelt (v ++ w)
join none_spelt s = s
join (spelt h r) s = spelt h (join r s)

in_word_lem : (b : ℕ) → (b ≡ 32 → ⊥) → (b ≡ 9 → ⊥) → (b ≡ 10 → ⊥) → (b ≡ 13 → ⊥) → (b ≡ 44 → ⊥) → in_word b ≡ true
unfolding in_word is_space
in_word_lem b p q r s t = rw (ne_eqb b 32 p, ne_eqb b 9 q, ne_eqb b 10 r, ne_eqb b 13 s, ne_eqb b 44 t)

digit_in : (d : ℕ) → T (is_digit d) → in_word d ≡ true
unfolding is_digit
digit_in d h =
    let k = digit_range d h in
    in_word_lem d (λ e. omega arith) (λ e. omega arith) (λ e. omega arith) (λ e. omega arith) (λ e. omega arith)

e_in : (e : ℕ) → T (is_e e) → in_word e ≡ true
unfolding is_e in_word is_space
e_in e h = go (eqb e 69) refl h
  where
    go : (b : Bool) → eqb e 69 ≡ b → T (b || eqb e 101) → in_word e ≡ true
    go true p h = ap in_word (eqb→eq e 69 (subst T (sym p) tt))
    go false p h = ap in_word (eqb→eq e 101 h)

digits_spelt : {ds : List ℕ} → Digits ds → Spelt ds
digits_spelt no_digits = none_spelt
digits_spelt (more_digits {d} h r) = spelt (digit_in d h) (digits_spelt r)

some_spelt : {ds : List ℕ} → Some ds → Spelt ds
some_spelt (some_digits {d} h r) = spelt (digit_in d h) (digits_spelt r)

sign_spelt : {sg : List ℕ} {m : Bool} → Sign sg m → Spelt sg
unfolding in_word is_space
sign_spelt no_sign = none_spelt
sign_spelt plus = spelt refl none_spelt
sign_spelt minus = spelt refl none_spelt

exponent_spelt : {es xs : List ℕ} {l : Bool} → Exponent es l xs → Spelt es
exponent_spelt no_exponent = none_spelt
exponent_spelt (exponent {e} h g r) = spelt (e_in e h) (join (sign_spelt g) (some_spelt r))

point_in : in_word 46 ≡ true
unfolding in_word is_space
point_in = refl

number_spelt : {w : List ℕ} {i : TypedItem} → Number w i → Spelt w
number_spelt (without_point g r x) = join (sign_spelt g) (join (some_spelt r) (exponent_spelt x))
number_spelt (with_point g r f x) = join (sign_spelt g) (join (digits_spelt r) (spelt point_in (join (some_spelt f) (exponent_spelt x))))

-- and there is one
begins_some : {ds : List ℕ} (t : List ℕ) → Some ds → begins (ds ++ t) ≡ true
unfolding begins
begins_some t (some_digits {d} h r) = digit_in d h

begins_digits : {ds : List ℕ} (t : List ℕ) → Digits ds → begins t ≡ true → begins (ds ++ t) ≡ true
unfolding begins
begins_digits t no_digits e = e
begins_digits t (more_digits {d} h r) e = digit_in d h

begins_sign : {sg : List ℕ} {m : Bool} (t : List ℕ) → Sign sg m → begins t ≡ true → begins (sg ++ t) ≡ true
unfolding begins in_word is_space
begins_sign t no_sign e = e
begins_sign t plus e = refl
begins_sign t minus e = refl

begins_point : (t : List ℕ) → begins (46 ∷ t) ≡ true
unfolding begins
begins_point t = point_in

pub number_begins : {w : List ℕ} {i : TypedItem} → Number w i → begins w ≡ true
number_begins (without_point {sign} {ds} {es} g r x) = begins_sign (ds ++ es) g (begins_some es r)
number_begins (with_point {sign} {ds} {fs} {es} g r f x) = begins_sign (ds ++ (46 ∷ (fs ++ es))) g (begins_digits (46 ∷ (fs ++ es)) r (begins_point (fs ++ es)))

-- ---- the parts of a text
not_in : (b : ℕ) → is_space b ≡ true → in_word b ≡ false
unfolding in_word
not_in b e = rw e

parts_gap : {g : List ℕ} (t : List ℕ) → Gap g → parts (g ++ t) ≡ parts t
unfolding parts
parts_gap t no_gap = refl
parts_gap t (gap {b} h r) = rw (is_true (is_space b) h) (parts_gap t r)

begins_gap : {g : List ℕ} → Gap g → begins g ≡ false
unfolding begins
begins_gap no_gap = refl
begins_gap (gap {b} h r) = not_in b (is_true (is_space b) h)

parts_none : {g : List ℕ} → Gap g → parts g ≡ []
unfolding parts
parts_none {g} r = ap parts (sym (append-nil g)) ∙ parts_gap [] r

parts_comma : (t : List ℕ) → parts (44 ∷ t) ≡ comma_part ∷ parts t
unfolding parts is_space
parts_comma t = refl

pub begins_append : (v t : List ℕ) → begins v ≡ true → begins (v ++ t) ≡ true
unfolding begins
begins_append [] t e = cc
begins_append (b ∷ v) t e = e

-- a word before what is not in it
part_append : {w : List ℕ} (t : List ℕ) → Spelt w → begins t ≡ false → first_word (w ++ t) ≡ w
unfolding first_word
part_append t none_spelt f = no_part t f
part_append t (spelt {b} h r) f = rw h (ap (λ (l : List ℕ). b ∷ l) (part_append t r f))

rest_append : {w : List ℕ} (t : List ℕ) → Spelt w → begins t ≡ false → after_first_word (w ++ t) ≡ t
unfolding after_first_word
rest_append t none_spelt f = no_rest t f
rest_append t (spelt h r) f = rw h (rest_append t r f)

word_first : (w t : List ℕ) → Spelt w → begins w ≡ true → begins t ≡ false → parts (w ++ t) ≡ word_part w ∷ parts t
word_first w t s e f =
    parts_word (w ++ t) (begins_append w t e)
    ∙ ap (λ (l : List ℕ). word_part l ∷ parts (after_first_word (w ++ t))) (part_append t s f)
    ∙ ap (λ (l : List ℕ). word_part w ∷ parts l) (rest_append t s f)

-- ---- the items
and_some : (o : Option TypedItem) (r : Option (List TypedItem)) (i : TypedItem) (is : List TypedItem) → o ≡ some i → r ≡ some is → and_more o r ≡ some (i ∷ is)
unfolding and_more
and_some o r i is e f = rw (e, f)

no_more : items_from before.Item [] ≡ some []
unfolding items_from
no_more = refl

next_comma : (ps : List Part) → items_from before.Item (comma_part ∷ ps) ≡ items_from before.Comma ps
unfolding items_from
next_comma ps = refl

comma_begins : {g : List ℕ} (h t : List ℕ) → Gap g → begins ((g ++ (44 ∷ h)) ++ t) ≡ false
unfolding begins in_word is_space
comma_begins h t no_gap = refl
comma_begins h t (gap {b} k r) = not_in b (is_true (is_space b) k)

-- what parts two items does not begin in a word, and parts them
parting_begins : {p : List ℕ} (t : List ℕ) → Parting p → begins (p ++ t) ≡ false
unfolding begins
parting_begins t (spaced {b} h r) = not_in b (is_true (is_space b) h)
parting_begins t (comma {g} {h} r q) = comma_begins h t r

parting_items : {p : List ℕ} (t : List ℕ) → Parting p → (is : List TypedItem) → ((b : Before) → items_from b (parts t) ≡ some is) → items_from before.Item (parts (p ++ t)) ≡ some is
parting_items t (spaced {b} {g} h r) is f = ap (items_from before.Item) (parts_gap t (gap h r)) ∙ f before.Item
parting_items t (comma {g} {h} r q) is f =
    ap (λ (l : List ℕ). items_from before.Item (parts l)) (append_assoc g (44 ∷ h) t)
    ∙ ap (items_from before.Item) (parts_gap (44 ∷ (h ++ t)) r ∙ parts_comma (h ++ t))
    ∙ next_comma (parts (h ++ t))
    ∙ ap (items_from before.Comma) (parts_gap t q)
    ∙ f before.Comma

items_are : {t h : List ℕ} {is : List TypedItem} → Items t is → Gap h → (b : Before) → items_from b (parts (t ++ h)) ≡ some is
items_are {h = h} (one_item {w} {i} n) r b =
    ap (items_from b) (word_first w h (number_spelt n) (number_begins n) (begins_gap r) ∙ ap (λ (ps : List Part). word_part w ∷ ps) (parts_none r))
    ∙ item_more b w [] ∙ and_some (item_of w) (items_from before.Item []) i [] (item_complete n) no_more
items_are {h = h} (more_items {w} {p} {t} {i} {is} n q r) g b =
    let u : List ℕ = p ++ (t ++ h) in
    ap (λ (l : List ℕ). items_from b (parts l)) (append_assoc w (p ++ t) h ∙ ap (λ (l : List ℕ). w ++ l) (append_assoc p t h))
    ∙ ap (items_from b) (word_first w u (number_spelt n) (number_begins n) (parting_begins (t ++ h) q))
    ∙ item_more b w (parts u)
    ∙ and_some (item_of w) (items_from before.Item (parts u)) i is (item_complete n) (parting_items (t ++ h) q is (λ c. items_are r g c))

no_items : items_from before.Start [] ≡ some []
unfolding items_from
no_items = refl

-- ---- the list
pub list_complete : {t : List ℕ} {is : List TypedItem} → Listed t is → items_of t ≡ some is
list_complete (empty r) = ap (items_from before.Start) (parts_none r) ∙ no_items
list_complete (listed {g} {t} {h} r n q) = ap (items_from before.Start) (parts_gap (t ++ h) r) ∙ items_are n q before.Start
