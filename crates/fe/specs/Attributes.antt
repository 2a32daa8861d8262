-- What the conversions of the filter elements share: an attribute's number or its default, and whether its text is a word. Definitions only.
use Rattle.std.specs.Prelude.{ℕ, Bool, false, List, Float, None, Option, Some}
use Rattle.bits.specs.Bytes.{same}
use Rattle.svgtree.specs.Values.{Node}
use Rattle.svgtree.specs.Readers.{number_of, or_default}

-- a node's number by its id, or the default
abbrev pub number_or : Node → ℕ → Float → Float
number_or n id d = or_default (number_of n id) d

-- whether a text is there and is the word
abbrev pub is_word : Option (List ℕ) → List ℕ → Bool
is_word None w = false
is_word (Some t) w = same t w
