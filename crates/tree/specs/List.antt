-- The list of primitives as bytes. Definitions only.
use Rattle.std.specs.Prelude.{ℕ, ◌+◌, ◌*◌, List, [], ◌∷◌, ◌++◌, map, length}
use Rattle.bits.specs.Bytes.{bytes16, bytes32}
use Rattle.tree.specs.Input.{Input, text_bytes, input_bytes}
use Rattle.tree.specs.Scalars.{rect_bytes}
use Rattle.tree.specs.Places.{color_interpolation_place, kind_place}
use Rattle.tree.specs.Kinds.{Kind, Inputs, Nothing, One, Two, Vec, inputs_in, Primitive}
use Rattle.tree.specs.Fields.{field_bytes}

-- How an input is written is left open: f says it.

-- inputs one after the other
unfoldable pub input_run : {A : Type 0} → (A → List ℕ) → List A → List ℕ
input_run f [] = []
input_run f (i ∷ inputs) = f i ++ input_run f inputs

-- a Vec has its count before it
abbrev pub inputs_bytes : {A : Type 0} → (A → List ℕ) → Inputs A → List ℕ
inputs_bytes f Nothing = []
inputs_bytes f (One a) = f a
inputs_bytes f (Two a b) = f a ++ f b
inputs_bytes f (Vec inputs) = bytes16 (length inputs) ++ input_run f inputs

-- a kind: its place, its inputs and its other fields
abbrev pub kind_bytes_with : {A : Type 0} → (A → List ℕ) → Kind A → List ℕ
kind_bytes_with f k = (kind_place k ∷ []) ++ inputs_bytes f (inputs_in k) ++ field_bytes k

-- with an input as the converter's lists have it
unfoldable pub kind_bytes : Kind Input → List ℕ
kind_bytes k = kind_bytes_with input_bytes k

-- "A record holds `Primitive`'s fields in declaration order"
unfoldable pub primitive_bytes : Primitive → List ℕ
primitive_bytes p =
    rect_bytes p.rect ++ (color_interpolation_place p.color_interpolation ∷ []) ++ text_bytes p.result ++ kind_bytes p.kind

abbrev pub primitive_size : Primitive → ℕ
primitive_size p = length (primitive_bytes p)

-- records of these sizes that touch, the first of them at an offset: the pairs of offset and length
unfoldable pub pairs_bytes : ℕ → List ℕ → List ℕ
pairs_bytes at [] = []
pairs_bytes at (k ∷ ks) = bytes32 at ++ bytes32 k ++ pairs_bytes (at + k) ks

unfoldable pub records_bytes : List Primitive → List ℕ
records_bytes [] = []
records_bytes (p ∷ ps) = primitive_bytes p ++ records_bytes ps

-- "u16 count, pairs as above, records touching": an offset counts from the list's first byte, so the first record begins
-- after the count and the pairs
unfoldable pub list_bytes : List Primitive → List ℕ
list_bytes ps = bytes16 (length ps) ++ pairs_bytes (2 + 8 * length ps) (map primitive_size ps) ++ records_bytes ps
