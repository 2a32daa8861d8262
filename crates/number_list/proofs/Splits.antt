-- The parts of a text: white space is skipped, a comma is a part, and a word goes up to the next white space or comma. Assumes nothing.
use Prim.Native.Nat.{ℕ, ◌+◌, ◌<◌}
use native.Mathlib.Numerals.{one-add}
use native.Mathlib.Omega.{arith}
use mathlib.Core.Path.{◌≡◌, refl, sym, ap, ◌∙◌, subst}
use mathlib.Core.Bool.{Bool, true, false, not, cond}
use mathlib.Core.List.{List, [], ◌∷◌}
use lib.ListN.{take, drop}
use lib.Dec.{T, eqb}
use lib.Ieee.Fits.{and_l, and_r}
use lib.Ieee.Bits.{is_false}
use Rattle.std.specs.Prelude.{Some, None}
use Rattle.std.specs.List.{slice_get, prefix_len}
use Rattle.number_list.specs.Text.{Part, comma_part, word_part, is_space, in_word, begins, joined, parts}

-- ---- bytes of a word
word_space : (b : ℕ) → in_word b ≡ true → is_space b ≡ false
unfolding in_word
word_space b e = is_false (is_space b) (and_l (not (is_space b)) (not (eqb b 44)) (subst T (sym e) tt))

word_comma : (b : ℕ) → in_word b ≡ true → eqb b 44 ≡ false
unfolding in_word
word_comma b e = is_false (eqb b 44) (and_r (not (is_space b)) (not (eqb b 44)) (subst T (sym e) tt))

-- the word that a text begins with, and what follows it
unfoldable pub first_word : List ℕ → List ℕ
first_word [] = []
first_word (b ∷ t) = cond (in_word b) (b ∷ first_word t) []

unfoldable pub after_first_word : List ℕ → List ℕ
after_first_word [] = []
after_first_word (b ∷ t) = cond (in_word b) (after_first_word t) (b ∷ t)

pub no_part : (t : List ℕ) → begins t ≡ false → first_word t ≡ []
unfolding begins first_word
no_part [] e = refl
no_part (b ∷ t) e = rw e

pub no_rest : (t : List ℕ) → begins t ≡ false → after_first_word t ≡ t
unfolding begins after_first_word
no_rest [] e = refl
no_rest (b ∷ t) e = rw e

one_word : (b : ℕ) (t : List ℕ) → in_word b ≡ true → (begins t ≡ true → parts t ≡ word_part (first_word t) ∷ parts (after_first_word t))
    → parts (b ∷ t) ≡ word_part (first_word (b ∷ t)) ∷ parts (after_first_word (b ∷ t))
unfolding parts joined first_word after_first_word
one_word b t e ih = rw (word_space b e, word_comma b e, e) (go (begins t) refl)
  where
    go : (q : Bool) → begins t ≡ q → joined q b (parts t) ≡ word_part (b ∷ first_word t) ∷ parts (after_first_word t)
    go true f = ap (λ (ps : List Part). joined true b ps) (ih f)
    go false f = rw (no_part t f, no_rest t f)

pub parts_word : (t : List ℕ) → begins t ≡ true → parts t ≡ word_part (first_word t) ∷ parts (after_first_word t)
unfolding begins
parts_word [] e = cc
parts_word (b ∷ t) e = one_word b t e (λ f. parts_word t f)

-- the same by how many of its bytes stand in a word
first_word_len : (t : List ℕ) → first_word t ≡ take (prefix_len in_word t) t
unfolding first_word
first_word_len [] = refl
first_word_len (b ∷ t) = go (in_word b) (first_word_len t)
  where
    go : (q : Bool) → first_word t ≡ take (prefix_len in_word t) t → cond q (b ∷ first_word t) [] ≡ take (cond q (1 + prefix_len in_word t) 0) (b ∷ t)
    go true ih = rw one-add (ap (λ (l : List ℕ). b ∷ l) ih)
    go false ih = refl

after_first_word_len : (t : List ℕ) → after_first_word t ≡ drop (prefix_len in_word t) t
unfolding after_first_word
after_first_word_len [] = refl
after_first_word_len (b ∷ t) = go (in_word b) (after_first_word_len t)
  where
    go : (q : Bool) → after_first_word t ≡ drop (prefix_len in_word t) t → cond q (after_first_word t) (b ∷ t) ≡ drop (cond q (1 + prefix_len in_word t) 0) (b ∷ t)
    go true ih = rw one-add ih
    go false ih = refl

-- ---- by the first byte
pub parts_end : (t : List ℕ) → slice_get t 0 ≡ None → parts t ≡ []
unfolding parts
parts_end [] e = refl
parts_end (b ∷ t) e = cc

pub parts_comma : (t : List ℕ) → slice_get t 0 ≡ Some 44 → parts t ≡ comma_part ∷ parts (drop 1 t)
unfolding parts is_space
parts_comma [] e = cc
parts_comma (b ∷ t) e = let f : b ≡ 44 = cc in rw f

begins_first : (t : List ℕ) (b : ℕ) → slice_get t 0 ≡ Some b → begins t ≡ in_word b
unfolding begins
begins_first [] b e = cc
begins_first (x ∷ t) b e = let f : x ≡ b = cc in ap in_word f

some_first : (t : List ℕ) (b : ℕ) → slice_get t 0 ≡ Some b → in_word b ≡ true → 0 < prefix_len in_word t
some_first [] b e h = cc
some_first (x ∷ t) b e h =
    let f : x ≡ b = cc in
    let g : in_word x ≡ true = ap in_word f ∙ h in
    rw g (omega arith)

module _ (t : List ℕ) (b : ℕ) (e : slice_get t 0 ≡ Some b) (h : in_word b ≡ true) where
  begun : begins t ≡ true
  begun = begins_first t b e ∙ h

  pub parts_begin : parts t ≡ word_part (take (prefix_len in_word t) t) ∷ parts (drop (prefix_len in_word t) t)
  parts_begin = rw (← first_word_len t, ← after_first_word_len t) (parts_word t begun)

  pub word_some : 0 < prefix_len in_word t
  word_some = some_first t b e h

-- ---- white space
pub parts_space : (b : ℕ) (t : List ℕ) → is_space b ≡ true → parts (b ∷ t) ≡ parts t
unfolding parts
parts_space b t e = rw e

pub parts_spaces : (t : List ℕ) → parts t ≡ parts (drop (prefix_len is_space t) t)
parts_spaces [] = refl
parts_spaces (b ∷ t) = go (is_space b) refl (parts_spaces t)
  where
    go : (q : Bool) → is_space b ≡ q → parts t ≡ parts (drop (prefix_len is_space t) t) → parts (b ∷ t) ≡ parts (drop (cond q (1 + prefix_len is_space t) 0) (b ∷ t))
    go true e ih = rw one-add (parts_space b t e ∙ ih)
    go false e ih = refl

pub space_stops : (t : List ℕ) (b : ℕ) → slice_get (drop (prefix_len is_space t) t) 0 ≡ Some b → is_space b ≡ false
space_stops [] b = λ e. cc
space_stops (x ∷ t) b = go (is_space x) refl (space_stops t b)
  where
    go : (q : Bool) → is_space x ≡ q → (slice_get (drop (prefix_len is_space t) t) 0 ≡ Some b → is_space b ≡ false)
        → slice_get (drop (cond q (1 + prefix_len is_space t) 0) (x ∷ t)) 0 ≡ Some b → is_space b ≡ false
    go true f ih e = ih (rw one-add at e)
    go false f ih e = let g : x ≡ b = cc in ap is_space (sym g) ∙ f
