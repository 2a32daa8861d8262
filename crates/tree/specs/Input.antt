-- An input of a filter primitive, and texts, as a list has them. Definitions only.
use Rattle.std.specs.Prelude.{ℕ, List, [], ◌∷◌, ◌++◌, length}
use Rattle.bits.specs.Bytes.{bytes16}

-- a name is its bytes
abbrev pub Name : Type 0
Name = List ℕ

-- `Input` of tree/filter.rs: a source, or the result of an earlier primitive. R is what a list refers to that primitive by
pub data InputOf (R : Type 0) : Type 0 where
  SourceGraphic SourceAlpha : InputOf R
  Reference : R → InputOf R

-- in the lists of the converter: its name
abbrev pub Input : Type 0
Input = InputOf Name

-- a text: how many bytes, as two bytes, and the bytes
unfoldable pub text_bytes : List ℕ → List ℕ
text_bytes t = bytes16 (length t) ++ t

-- an enum is its place in the declaration, and then its fields
abbrev pub input_bytes_with : {R : Type 0} → (R → List ℕ) → InputOf R → List ℕ
input_bytes_with ref_bytes SourceGraphic = 0 ∷ []
input_bytes_with ref_bytes SourceAlpha = 1 ∷ []
input_bytes_with ref_bytes (Reference t) = (2 ∷ []) ++ ref_bytes t

unfoldable pub input_bytes : Input → List ℕ
input_bytes i = input_bytes_with text_bytes i
