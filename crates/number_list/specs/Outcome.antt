-- What comes of a typed list, and its numbers: document 02, [2]. Definitions only.
use Rattle.std.specs.Prelude.{ℕ, Bool, true, ◌&&◌, cond, List, [], ◌∷◌, map, length, ltb, Float, None, Option, Some}
use Rattle.sheet_fields.specs.Fields.{size_numbers_most}
use Rattle.decimal.specs.Grammar.{TypedItem, item_of}
use Rattle.decimal.specs.Limits.{in_limits}
use Rattle.decimal.specs.Value.{item_value, item_value_in}
use Rattle.number_list.specs.Text.{Part, comma_part, word_part, parts, items_of}

-- each item is within the limits
unfoldable pub all_in_limits : List TypedItem → Bool
all_in_limits [] = true
all_in_limits (i ∷ is) = in_limits i && all_in_limits is

-- "10 for text outside that grammar .. or over 1,024 items, then 11 for more than 15 digits or a power outside −22 to 22"; else the numbers
pub data TextOutcome : Type 0 where
  outside_grammar : TextOutcome
  outside_limits : TextOutcome
  passed : List Float → TextOutcome

-- by the items of a text, or none
unfoldable pub items_outcome : Option (List TypedItem) → TextOutcome
items_outcome None = outside_grammar
items_outcome (Some is) = cond (ltb size_numbers_most (length is)) outside_grammar (cond (all_in_limits is) (passed (map item_value is)) outside_limits)

abbrev pub text_outcome : List ℕ → TextOutcome
text_outcome t = items_outcome (items_of t)

-- the words of a text
unfoldable pub words_in : List Part → List (List ℕ)
words_in [] = []
words_in (comma_part ∷ ps) = words_in ps
words_in (word_part w ∷ ps) = w ∷ words_in ps

-- the number that is read of a word
abbrev pub word_value : List ℕ → Float
word_value w = item_value_in (item_of w)

-- the numbers that are read of any text, one for each word. Of a text that is not refused they are the numbers of its outcome (theorem `read_as_given` of
-- `sheet_accepted`)
abbrev pub typed_numbers : List ℕ → List Float
typed_numbers t = map word_value (words_in (parts t))
