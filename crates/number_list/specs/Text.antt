-- A list of numbers as it is typed, a text of bytes: "items parted by white space (space, tab, line feed, carriage return), one comma, or a comma
-- among white space; outer white space is allowed and empty text is the empty list". Definitions only.
use Rattle.std.specs.Prelude.{ℕ, Bool, true, false, not, ◌&&◌, ◌||◌, cond, List, [], ◌∷◌, eqb, None, Option, Some}
use Rattle.decimal.specs.Grammar.{TypedItem, item_of}
use Rattle.number_list.specs.declared.Before.{Before}
use Rattle.number_list.specs.declared.Before.TheVariants as before

-- space, tab, line feed, carriage return
unfoldable pub is_space : ℕ → Bool
is_space b = eqb b 32 || (eqb b 9 || (eqb b 10 || eqb b 13))

-- neither white space nor a comma
unfoldable pub in_word : ℕ → Bool
in_word b = not (is_space b) && not (eqb b 44)

-- ---- a text is words and commas; white space parts words, and says nothing else
pub data Part : Type 0 where
  comma_part : Part
  word_part : List ℕ → Part

-- whether the text begins in a word
unfoldable pub begins : List ℕ → Bool
begins [] = false
begins (b ∷ t) = in_word b

-- a byte of a word before the parts of what follows it: it goes into the first word, if it touches it
unfoldable pub joined : Bool → ℕ → List Part → List Part
joined true b (word_part w ∷ ps) = word_part (b ∷ w) ∷ ps
joined true b (comma_part ∷ ps) = word_part (b ∷ []) ∷ comma_part ∷ ps
joined true b [] = word_part (b ∷ []) ∷ []
joined false b ps = word_part (b ∷ []) ∷ ps

-- the parts of a text, in order; 44 is the comma
unfoldable pub parts : List ℕ → List Part
parts [] = []
parts (b ∷ t) = cond (is_space b) (parts t) (cond (eqb b 44) (comma_part ∷ parts t) (joined (begins t) b (parts t)))

-- ---- the list: each word is a number; a comma stands between two words, and no two commas together

-- an item and those after it, if each of them is one
unfoldable pub and_more : Option TypedItem → Option (List TypedItem) → Option (List TypedItem)
and_more None rest = None
and_more (Some i) None = None
and_more (Some i) (Some is) = Some (i ∷ is)

-- by what stands before: nothing, an item, or a comma
unfoldable pub items_from : Before → List Part → Option (List TypedItem)
items_from before.Start [] = Some []
items_from before.Item [] = Some []
items_from before.Comma [] = None
items_from before.Start (comma_part ∷ ps) = None
items_from before.Item (comma_part ∷ ps) = items_from before.Comma ps
items_from before.Comma (comma_part ∷ ps) = None
items_from before.Start (word_part w ∷ ps) = and_more (item_of w) (items_from before.Item ps)
items_from before.Item (word_part w ∷ ps) = and_more (item_of w) (items_from before.Item ps)
items_from before.Comma (word_part w ∷ ps) = and_more (item_of w) (items_from before.Item ps)

-- the items of a text, or none where it is outside the grammar
abbrev pub items_of : List ℕ → Option (List TypedItem)
items_of t = items_from before.Start (parts t)
