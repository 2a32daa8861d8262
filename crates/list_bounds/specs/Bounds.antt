-- How long a list can be, and the numbers in it that are written in two or four bytes. Definitions only.
use Rattle.std.specs.Prelude.{ℕ, ◌+◌, ◌*◌, ◌≤◌, ◌<◌, List, [], ◌∷◌, ◌++◌, map, length}
use Rattle.tree.specs.Input.{Input, SourceGraphic, SourceAlpha, Reference}
use Rattle.tree.specs.Kinds.{ColorMatrixKind, Matrix, Saturate, HueRotate, LuminanceToAlpha, TransferFunction, Identity, Table, Discrete, Linear, Gamma}
use Rattle.tree.specs.Kinds.{Kind, Blend, ColorMatrix, ComponentTransfer, Composite, ConvolveMatrix, DiffuseLighting, DisplacementMap, DropShadow, Flood, GaussianBlur, Image, Merge, Morphology, Offset, SpecularLighting, Tile, Turbulence, Primitive, inputs_of}
use Rattle.tree.specs.List.{primitive_size, list_bytes}

-- as many bytes as any list of an accepted sheet needs: ZATONGAE_LIST_BYTES of include/zatongae.h
abbrev pub most_bytes : ℕ
most_bytes = 589824

-- The numbers that a list writes as a u32 for its pairs: each record's offset and length

unfoldable pub pair_numbers : ℕ → List ℕ → List ℕ
pair_numbers at [] = []
pair_numbers at (k ∷ ks) = at ∷ k ∷ pair_numbers (at + k) ks

-- The numbers that a list writes as a u16: the count of primitives, of the bytes of a text, of the numbers or the inputs of a Vec

abbrev pub table_counts : TransferFunction → List ℕ
table_counts Identity = []
table_counts (Table xs) = length xs ∷ []
table_counts (Discrete xs) = length xs ∷ []
table_counts (Linear slope intercept) = []
table_counts (Gamma amplitude exponent offset) = []

abbrev pub matrix_counts : ColorMatrixKind → List ℕ
matrix_counts (Matrix xs) = length xs ∷ []
matrix_counts (Saturate x) = []
matrix_counts (HueRotate x) = []
matrix_counts LuminanceToAlpha = []

abbrev pub kind_counts : {A : Type 0} → Kind A → List ℕ
kind_counts (Blend a b v) = []
kind_counts (ColorMatrix a v) = matrix_counts v
kind_counts (ComponentTransfer a v) = table_counts v.func_r ++ table_counts v.func_g ++ table_counts v.func_b ++ table_counts v.func_a
kind_counts (Composite a b v) = []
kind_counts (ConvolveMatrix a v) = length v.matrix.numbers ∷ []
kind_counts (DiffuseLighting a v) = []
kind_counts (DisplacementMap a b v) = []
kind_counts (DropShadow a v) = []
kind_counts (Flood v) = []
kind_counts (GaussianBlur a v) = []
kind_counts (Image never) = []
kind_counts (Merge inputs) = length inputs ∷ []
kind_counts (Morphology a v) = []
kind_counts (Offset a v) = []
kind_counts (SpecularLighting a v) = []
kind_counts (Tile a) = []
kind_counts (Turbulence v) = []

abbrev pub input_counts : List Input → List ℕ
input_counts [] = []
input_counts (SourceGraphic ∷ is) = input_counts is
input_counts (SourceAlpha ∷ is) = input_counts is
input_counts (Reference t ∷ is) = length t ∷ input_counts is

unfoldable pub record_counts : List Primitive → List ℕ
record_counts [] = []
record_counts (p ∷ ps) = (length p.result ∷ []) ++ input_counts (inputs_of p.kind) ++ kind_counts p.kind ++ record_counts ps

abbrev pub list_counts : List Primitive → List ℕ
list_counts ps = length ps ∷ record_counts ps

abbrev pub EachBelow : ℕ → List ℕ → Type 0
EachBelow bound [] = Unit {0}
EachBelow bound (n ∷ ns) = (n < bound) × EachBelow bound ns

-- a list that is not too long for the output that the header names, with every count and every offset in its width
pub record ListFits (ps : List Primitive) : Type 0 where
  pub short : length (list_bytes ps) ≤ most_bytes
  pub counts : EachBelow 65536 (list_counts ps)
  pub pairs : EachBelow 4294967296 (pair_numbers (2 + 8 * length ps) (map primitive_size ps))
