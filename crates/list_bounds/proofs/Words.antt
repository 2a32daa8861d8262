-- A typed list has at most one number for two of its bytes, and one more: two words do not touch. Assumes nothing.
use Prim.Native.Nat.{ℕ, suc, ◌+◌, ◌*◌, ◌≤◌}
use native.Mathlib.Omega.{arith}
use mathlib.Core.Path.{◌≡◌, refl}
use mathlib.Core.Bool.{Bool, true, false, not, cond, ◌&&◌}
use mathlib.Core.List.{List, [], ◌∷◌}
use lib.Dec.{eqb}
use lib.ListN.{length, length-map}
use Rattle.number_list.specs.Text.{Part, comma_part, word_part, is_space, in_word, begins, joined, parts}
use Rattle.number_list.specs.Outcome.{words_in, word_value, typed_numbers}

-- a word comes first
abbrev WordFirst : List Part → Type 0
WordFirst [] = ⊥
WordFirst (comma_part ∷ ps) = ⊥
WordFirst (word_part w ∷ ps) = Unit {0}

joined_first : (touching : Bool) (b : ℕ) (ps : List Part) → WordFirst (joined touching b ps)
unfolding joined
joined_first true b [] = tt
joined_first true b (comma_part ∷ ps) = tt
joined_first true b (word_part w ∷ ps) = tt
joined_first false b ps = tt

begins_first : (t : List ℕ) → begins t ≡ true → WordFirst (parts t)
unfolding begins in_word parts
begins_first [] e = cc
begins_first (b ∷ t) e = go (is_space b) (eqb b 44) e
  where
    go : (space comma' : Bool) → (not space && not comma') ≡ true → WordFirst (cond space (parts t) (cond comma' (comma_part ∷ parts t) (joined (begins t) b (parts t))))
    go true q e = cc
    go false true e = cc
    go false false e = joined_first (begins t) b (parts t)

-- a byte of a word adds no word to one that it touches, and else one
joined_more : (b n : ℕ) (touching : Bool) (ps : List Part) → (touching ≡ true → WordFirst ps) → 2 * length (words_in ps) ≤ n + cond touching 1 0
    → 2 * length (words_in (joined touching b ps)) ≤ suc n + 1
unfolding joined words_in
joined_more b n true [] f h = absurd (f refl)
joined_more b n true (comma_part ∷ ps) f h = absurd (f refl)
joined_more b n true (word_part w ∷ ps) f h = omega arith
joined_more b n false ps f h = omega arith

one_more : (n : ℕ) (b : Bool) (m : ℕ) → m ≤ n + cond b 1 0 → m ≤ suc n
one_more n true m h = omega arith
one_more n false m h = omega arith

words_few : (t : List ℕ) → 2 * length (words_in (parts t)) ≤ length t + cond (begins t) 1 0
unfolding begins in_word parts words_in
words_few [] = omega arith
words_few (b ∷ t) = go (is_space b) (eqb b 44) (words_few t)
  where
    go : (space comma' : Bool) → 2 * length (words_in (parts t)) ≤ length t + cond (begins t) 1 0
        → 2 * length (words_in (cond space (parts t) (cond comma' (comma_part ∷ parts t) (joined (begins t) b (parts t))))) ≤ suc (length t) + cond (not space && not comma') 1 0
    go true q h = omega (arith, one_more (length t) (begins t) _ h)
    go false true h = omega (arith, one_more (length t) (begins t) _ h)
    go false false h = joined_more b (length t) (begins t) (parts t) (begins_first t) h

pub typed_few : (t : List ℕ) → 4 * length (typed_numbers t) ≤ 2 * length t + 2
typed_few t = go (begins t) (words_few t)
  where
    go : (b : Bool) → 2 * length (words_in (parts t)) ≤ length t + cond b 1 0 → 4 * length (typed_numbers t) ≤ 2 * length t + 2
    go true h = omega (arith, length-map (words_in (parts t)) word_value)
    go false h = omega (arith, length-map (words_in (parts t)) word_value)
