-- The attributes of a node, tested one after the other: what the loop tests from a place on is what the layout says of the list.
-- Assumes nothing.
use Prim.Native.Nat.{ℕ, zero, suc, ◌+◌, ◌≤◌}
use native.Mathlib.Omega.{arith}
use native.Mathlib.Nat.{add-zero}
use mathlib.Core.Path.{◌≡◌, refl, sym, ap, ◌∙◌}
use mathlib.Core.List.{List, [], ◌∷◌, map}
use mathlib.Core.Bool.{Bool, true, false, ◌&&◌}
use lib.Dec.{eqb, leb, ltb}
use borrow.Author.Tests.{eq-eqb, ne_eqb, eqb-true, eqb-false, le-leb, lt-ltb, le-ltb, leb-true, leb-false}
use Rattle.sheet_fields.specs.Fields.{node_attributes}
use Rattle.bits.proofs.Runs.{length-bytes_from}
use Rattle.svgtree.specs.Parse.{attribute_id, attribute_length_at, value_place, next_place, places_from, places_of, attributes_place, attribute_count}
use Rattle.svgtree.specs.declared.attributes.Attribute.{Attribute}
use Rattle.svgtree.specs.Listed.{read_from, read_of}
use Rattle.sheet_layout.specs.Tests.{rising, sum}
use Rattle.field_tests.specs.Tests.{all}
use Rattle.sheet_layout.specs.Records.{Entry, entry_at, entry_of, entry_size}
use Rattle.sheet_layout.specs.Layout.{entry_ok, entries_ok}

-- two tests that hold together are the same test
pub same_test : (a b c d : ℕ) → (a ≡ b → c ≡ d) → (c ≡ d → a ≡ b) → eqb a b ≡ eqb c d
same_test a b c d f g = go (eqb a b) refl
  where
    go : (t : Bool) → eqb a b ≡ t → t ≡ eqb c d
    go true e = sym (eq-eqb c d (f (eqb-true a b e)))
    go false e = sym (ne_eqb c d (λ h. eqb-false a b e (g h)))

ltb_leb : (x y : ℕ) → ltb x y ≡ leb (x + 1) y
ltb_leb x y = go (leb (x + 1) y) refl
  where
    go : (t : Bool) → leb (x + 1) y ≡ t → ltb x y ≡ t
    go true e = lt-ltb x y (omega (arith, leb-true (x + 1) y e))
    go false e = le-ltb x y (omega (arith, leb-false (x + 1) y e))

-- ids that rise from `low` on
unfoldable pub rising_from : ℕ → List ℕ → Bool
rising_from low [] = true
rising_from low (x ∷ rest) = leb low x && rising_from (x + 1) rest

rising_after : (x : ℕ) (l : List ℕ) → rising (x ∷ l) ≡ rising_from (x + 1) l
unfolding rising rising_from
rising_after x [] = refl
rising_after x (y ∷ l) = rw (ltb_leb x y) (ap (λ (t : Bool). leb (x + 1) y && t) (rising_after y l))

rising_from_lem : (l : List ℕ) → rising l ≡ rising_from 0 l
unfolding rising rising_from
rising_from_lem [] = refl
rising_from_lem (x ∷ l) =
    let z : 0 ≤ x = omega arith in
    rising_after x l ∙ simp (le-leb 0 x z)

-- what the loop tests: attributes that begin at a place, with ids from `low` on that rise, up to `end`
unfoldable pub looped : List ℕ → (depth end at : ℕ) → List Attribute → (low : ℕ) → Bool
looped s depth end at [] low = eqb at end
looped s depth end at (a ∷ rest) low = leb low a.id && entry_ok depth (entry_of s a) && looped s depth end (a.value.at + a.value.len) rest (a.id + 1)

shuffle : (o a l r e : Bool) → (o && a && (l && r) && e) ≡ (l && o && (a && r && e))
shuffle true a true r e = refl
shuffle true true false r e = refl
shuffle true false false r e = refl
shuffle false a true r e = refl
shuffle false a false r e = refl

abbrev entries_from : List ℕ → ℕ → ℕ → List Entry
entries_from s at n = map (entry_at s) (places_from s at n)

size_here : (s : List ℕ) (at k : ℕ) → at + (entry_size (entry_at s at) + k) ≡ next_place s at + k
unfolding entry_at
size_here s at k = rw (length-bytes_from s (value_place at) (attribute_length_at s at)) (omega arith)

looped_is : (s : List ℕ) (depth end at n low : ℕ)
    → (all (entry_ok depth) (entries_from s at n)
    && rising_from low (map (λ e. e.id) (entries_from s at n))
    && eqb (at + sum (map entry_size (entries_from s at n))) end)
    ≡ looped s depth end at (read_from s at n) low
unfolding all rising_from sum places_from looped entry_at read_from
looped_is s depth end at zero low = rw (add-zero at)
looped_is s depth end at (suc n) low =
    let next = next_place s at in
    let l : List Entry = entries_from s next n in
    let e : at + (entry_size (entry_at s at) + sum (map entry_size l)) ≡ next + sum (map entry_size l) = size_here s at (sum (map entry_size l)) in
    shuffle (entry_ok depth (entry_at s at)) (all (entry_ok depth) l) (leb low (attribute_id s at)) (rising_from (attribute_id s at + 1) (map (λ e. e.id) l))
    (eqb (at + (entry_size (entry_at s at) + sum (map entry_size l))) end)
    ∙ ap (λ (t : Bool). leb low (attribute_id s at) && entry_ok depth (entry_at s at) && t)
    (ap (λ (k : ℕ). all (entry_ok depth) l && rising_from (attribute_id s at + 1) (map (λ e. e.id) l) && eqb k end) e ∙ looped_is s depth end next n (attribute_id s at + 1))

pub entries_looped : (s : List ℕ) (depth size node : ℕ)
    → entries_ok depth size (map (entry_at s) (places_of s node)) ≡ looped s depth (node + size) (attributes_place node) (read_of s node) 0
unfolding entries_ok
entries_looped s depth size node =
    let l : List Entry = entries_from s (attributes_place node) (attribute_count s node) in
    let t = sum (map entry_size l) in
    rw (rising_from_lem (map (λ e. e.id) l), same_test (node_attributes + t) size (attributes_place node + t) (node + size) (λ h. omega arith) (λ h. omega arith))
    (looped_is s depth (node + size) (attributes_place node) (attribute_count s node) 0)

module _ (s : List ℕ) (depth end at low : ℕ) where
  pub looped_end : looped s depth end at [] low ≡ eqb at end
  unfolding looped
  looped_end = refl

  pub looped_step : (a : Attribute) (rest : List Attribute)
      → looped s depth end at (a ∷ rest) low ≡ (leb low a.id && entry_ok depth (entry_of s a) && looped s depth end (a.value.at + a.value.len) rest (a.id + 1))
  unfolding looped
  looped_step a rest = refl

-- the test of all attributes, a turn of it, and its end
pub ruleset looping = (entries_looped, looped_step, looped_end)
