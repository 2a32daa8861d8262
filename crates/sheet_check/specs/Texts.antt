-- Refusals 10 and 11: document 02, [2], "Checks: after 2 and before 3 over the whole sheet, 10 for text outside that grammar .., then 11". They go over every
-- typed list of the sheet, whether something reads it or not. Definitions only.
use Rattle.std.specs.Prelude.{ℕ, zero, suc, ◌+◌, Bool, true, false, cond, List, [], ◌∷◌, ◌++◌, eqb}
use Rattle.bits.specs.Bytes.{bytes_from}
use Rattle.number_list.specs.Outcome.{TextOutcome, outside_grammar, outside_limits, passed, text_outcome}
use Rattle.sheet_fields.specs.Fields.{kind_typed}
use Rattle.svgtree.specs.Parse.{attribute_kind_at, attribute_length_at, value_place, places_of, count_of, offset_of}
use Rattle.field_tests.specs.Tests.{all}

-- the texts of the typed lists among the attributes at these places
unfoldable pub texts_in : List ℕ → (places : List ℕ) → List (List ℕ)
texts_in s [] = []
texts_in s (at ∷ places) = cond (eqb (attribute_kind_at s at) kind_typed) (bytes_from s (value_place at) (attribute_length_at s at) ∷ texts_in s places) (texts_in s places)

-- of n nodes from number i on, and of the whole sheet
unfoldable pub texts_from : List ℕ → (i n : ℕ) → List (List ℕ)
texts_from s i zero = []
texts_from s i (suc n) = texts_in s (places_of s (offset_of s i)) ++ texts_from s (i + 1) n

abbrev pub typed_texts : List ℕ → List (List ℕ)
typed_texts s = texts_from s 0 (count_of s)

abbrev pub outcome_in_grammar : TextOutcome → Bool
outcome_in_grammar outside_grammar = false
outcome_in_grammar outside_limits = true
outcome_in_grammar (passed xs) = true

abbrev pub outcome_in_limits : TextOutcome → Bool
outcome_in_limits outside_grammar = true
outcome_in_limits outside_limits = false
outcome_in_limits (passed xs) = true

abbrev pub text_in_grammar : List ℕ → Bool
text_in_grammar t = outcome_in_grammar (text_outcome t)

abbrev pub text_in_limits : List ℕ → Bool
text_in_limits t = outcome_in_limits (text_outcome t)

-- 10 is for a sheet with a text outside the grammar
unfoldable pub grammar_ok : List ℕ → Bool
grammar_ok s = all text_in_grammar (typed_texts s)

-- and 11, where no text is, for one with a text outside the limits
unfoldable pub limits_ok : List ℕ → Bool
limits_ok s = all text_in_limits (typed_texts s)
