-- The next part of a text, by its first byte. Assumes nothing.
use Rattle.std.specs.Prelude.{None, Some}
use Rattle.std.specs.List.{slice_get, prefix_len}
use Prim.Native.Nat.{ℕ, ◌<◌}
use mathlib.Core.Path.{◌≡◌, sym, ap, ◌∙◌, subst}
use mathlib.Core.Bool.{true, false}
use mathlib.Core.List.{List, [], ◌∷◌}
use lib.ListN.{take, drop}
use borrow.Author.Tests.{ne_eqb}
use Rattle.number_list.specs.Text.{comma_part, word_part, is_space, in_word, parts}
use Rattle.number_list.proofs.Splits.{parts_spaces, space_stops, parts_end, parts_comma, parts_begin, word_some}

-- a text t without its first n bytes, which are white space
module _ (t u : List ℕ) (n : ℕ) (k : n ≡ prefix_len is_space t) (e : u ≡ drop n t) where
  spaces_gone : parts u ≡ parts t
  spaces_gone = rw (e, k) (sym (parts_spaces t))

  no_space : (b : ℕ) → slice_get u 0 ≡ Some b → is_space b ≡ false
  no_space b f = space_stops t b (subst (λ (l : List ℕ). slice_get l 0 ≡ Some b) (e ∙ ap (λ (n : ℕ). drop n t) k) f)

  pub spaces_end : slice_get u 0 ≡ None → [] ≡ parts t
  spaces_end f = sym (parts_end u f) ∙ spaces_gone

  pub comma_next : (v : List ℕ) → slice_get u 0 ≡ Some 44 → v ≡ drop 1 u → comma_part ∷ parts v ≡ parts t
  comma_next v f g = rw g (sym (parts_comma u f)) ∙ spaces_gone

  module _ (b m : ℕ) (f : slice_get u 0 ≡ Some b) (g : b ≡ 44 → ⊥) (j : m ≡ prefix_len in_word u) where
    here : in_word b ≡ true
    unfolding in_word
    here = rw (no_space b f, ne_eqb b 44 g)

    pub word_next : (w v : List ℕ) → w ≡ take m u → v ≡ drop m u → word_part w ∷ parts v ≡ parts t
    word_next w v p q = rw (p, q, j) (sym (parts_begin u b f here)) ∙ spaces_gone

    pub word_long : 0 < m
    word_long = rw j (word_some u b f here)

-- the next part, by the first byte
pub ruleset next_part = (spaces_end, comma_next, word_next, word_long)
