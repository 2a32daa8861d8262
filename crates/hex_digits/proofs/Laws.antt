-- One byte more is two digits more. Assumes nothing.
use Prim.Native.Nat.{ℕ, ◌+◌, ◌/◌, ◌%◌, ◌<◌}
use native.Mathlib.Numerals.{add-one}
use mathlib.Core.Path.{◌≡◌, refl, ap}
use mathlib.Core.List.{List, [], ◌∷◌, ◌++◌}
use lib.ListN.{get_or, length, take}
use lib.Seq.{take-suc}
use Rattle.hex_digits.specs.Hex.{glyph, hex_of}

hex_snoc : (s : List ℕ) (b : ℕ) → hex_of (s ++ (b ∷ [])) ≡ hex_of s ++ (glyph (b / 16) ∷ glyph (b % 16) ∷ [])
unfolding hex_of
hex_snoc [] b = refl
hex_snoc (x ∷ s) b = ap (λ (l : List ℕ). glyph (x / 16) ∷ glyph (x % 16) ∷ l) (hex_snoc s b)

pub hex_more : (s : List ℕ) (j : ℕ) → j < length s
    → hex_of (take (j + 1) s) ≡ hex_of (take j s) ++ (glyph (get_or s j 0 / 16) ∷ glyph (get_or s j 0 % 16) ∷ [])
hex_more s j h = rw (add-one j, take-suc s j 0 h) (hex_snoc (take j s) (get_or s j 0))
