-- Bytes as lower-case hexadecimal digits, in ASCII. Definitions only.
use Rattle.std.specs.Prelude.{ℕ, ◌/◌, ◌%◌, List, [], ◌∷◌, get_or}
use Rattle.bits.specs.Words.{word}

-- the character of a digit below 16
unfoldable pub glyph : ℕ → ℕ
glyph d = get_or (word "0123456789abcdef") d 0

-- two digits a byte, the higher one first
unfoldable pub hex_of : List ℕ → List ℕ
hex_of [] = []
hex_of (b ∷ s) = glyph (b / 16) ∷ glyph (b % 16) ∷ hex_of s
