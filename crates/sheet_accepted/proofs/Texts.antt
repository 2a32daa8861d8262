-- Refusals 10 and 11 leave no typed list that is not read: the text of each has numbers for an outcome. Assumes nothing.
use Prim.Native.Nat.{ℕ, zero, suc, ◌+◌, ◌<◌}
use native.Mathlib.Omega.{arith}
use mathlib.Core.Path.{◌≡◌, refl, subst}
use mathlib.Core.Bool.{Bool, true, false, cond, ◌&&◌}
use mathlib.Core.List.{List, [], ◌∷◌, ◌++◌}
use lib.Dec.{T, eqb}
use lib.Ieee.{Float}
use lib.Ieee.Fits.{and_l, and_r}
use borrow.Author.Tests.{eq-eqb}
use Rattle.bits.specs.Bytes.{bytes_from}
use Rattle.num.specs.Numbers.{Each}
use Rattle.number_list.specs.Outcome.{TextOutcome, outside_grammar, outside_limits, passed, text_outcome}
use Rattle.sheet_fields.specs.Fields.{kind_typed}
use Rattle.svgtree.specs.Parse.{attribute_kind_at, attribute_length_at, value_place, places_of, count_of, offset_of}
use Rattle.field_tests.specs.Tests.{all}
use Rattle.sheet_check.specs.Texts.{texts_in, texts_from, outcome_in_grammar, outcome_in_limits, text_in_grammar, text_in_limits, grammar_ok, limits_ok}

-- a text that is read
pub record ReadText (t : List ℕ) : Type 0 where
  pub listed : List Float
  pub outcome : text_outcome t ≡ passed listed

read_text_lem : (t : List ℕ) → T (text_in_grammar t) → T (text_in_limits t) → ReadText t
read_text_lem t = go (text_outcome t) refl
  where
    go : (o : TextOutcome) → text_outcome t ≡ o → T (outcome_in_grammar o) → T (outcome_in_limits o) → ReadText t
    go outside_grammar e g l = absurd g
    go outside_limits e g l = absurd l
    go (passed xs) e g l = record { listed = xs; outcome = e }

-- the attribute at a place, if it is a typed list
abbrev pub ReadTextAt : List ℕ → ℕ → Type 0
ReadTextAt s at = attribute_kind_at s at ≡ kind_typed → ReadText (bytes_from s (value_place at) (attribute_length_at s at))

-- a test of all texts is one of those in front and of those behind
all_front : {A : Type 0} (p : A → Bool) (xs ys : List A) → T (all p (xs ++ ys)) → T (all p xs)
unfolding all
all_front p [] ys h = tt
all_front p (x ∷ xs) ys h = go (p x) h (all_front p xs ys)
  where
    go : (b : Bool) → T (b && all p (xs ++ ys)) → (T (all p (xs ++ ys)) → T (all p xs)) → T (b && all p xs)
    go true h f = f h
    go false h f = absurd h

all_behind : {A : Type 0} (p : A → Bool) (xs ys : List A) → T (all p (xs ++ ys)) → T (all p ys)
unfolding all
all_behind p [] ys h = h
all_behind p (x ∷ xs) ys h = all_behind p xs ys (and_r (p x) (all p (xs ++ ys)) h)

module _ (s : List ℕ) where
  -- the attributes at some places
  each_read : (ps : List ℕ) → T (all text_in_grammar (texts_in s ps)) → T (all text_in_limits (texts_in s ps)) → Each (ReadTextAt s) ps
  unfolding all texts_in
  each_read [] g l = tt
  each_read (p ∷ ps) g l = go (eqb (attribute_kind_at s p) kind_typed) refl g l (each_read ps)
    where
      text : List ℕ
      text = bytes_from s (value_place p) (attribute_length_at s p)

      no : eqb (attribute_kind_at s p) kind_typed ≡ false → attribute_kind_at s p ≡ kind_typed → ReadText text
      no e q = let z : ◌≡◌ {A = Bool} true false = cc (eq-eqb (attribute_kind_at s p) kind_typed q, e) in absurd (subst T z tt)

      go : (b : Bool) → eqb (attribute_kind_at s p) kind_typed ≡ b
          → T (all text_in_grammar (cond b (text ∷ texts_in s ps) (texts_in s ps)))
          → T (all text_in_limits (cond b (text ∷ texts_in s ps) (texts_in s ps)))
          → (T (all text_in_grammar (texts_in s ps)) → T (all text_in_limits (texts_in s ps)) → Each (ReadTextAt s) ps)
          → ReadTextAt s p × Each (ReadTextAt s) ps
      go true e g l f =
          let grammar = all text_in_grammar (texts_in s ps) in
          let limits = all text_in_limits (texts_in s ps) in
          (λ q. read_text_lem text (and_l (text_in_grammar text) grammar g) (and_l (text_in_limits text) limits l), f (and_r (text_in_grammar text) grammar g) (and_r (text_in_limits text) limits l))
      go false e g l f = (no e, f g l)

  -- of the node k behind node i, among n nodes
  nodes_read : (i n k : ℕ) → k < n → T (all text_in_grammar (texts_from s i n)) → T (all text_in_limits (texts_from s i n)) → Each (ReadTextAt s) (places_of s (offset_of s (i + k)))
  unfolding texts_from
  nodes_read i zero k h g l = absurd (omega arith)
  nodes_read i (suc n) zero h g l =
      let first = texts_in s (places_of s (offset_of s i)) in
      let rest = texts_from s (i + 1) n in
      subst (λ (j : ℕ). Each (ReadTextAt s) (places_of s (offset_of s j))) (let z : i ≡ i + 0 = omega arith in z)
      (each_read (places_of s (offset_of s i)) (all_front text_in_grammar first rest g) (all_front text_in_limits first rest l))
  nodes_read i (suc n) (suc k) h g l =
      let first = texts_in s (places_of s (offset_of s i)) in
      let rest = texts_from s (i + 1) n in
      subst (λ (j : ℕ). Each (ReadTextAt s) (places_of s (offset_of s j))) (let z : i + 1 + k ≡ i + suc k = omega arith in z)
      (nodes_read (i + 1) n k (omega arith) (all_behind text_in_grammar first rest g) (all_behind text_in_limits first rest l))

  pub texts_read : T (grammar_ok s) → T (limits_ok s) → (i : ℕ) → i < count_of s → Each (ReadTextAt s) (places_of s (offset_of s i))
  unfolding grammar_ok limits_ok
  texts_read g l i h = subst (λ (j : ℕ). Each (ReadTextAt s) (places_of s (offset_of s j))) (let z : 0 + i ≡ i = omega arith in z) (nodes_read 0 (count_of s) i h g l)
