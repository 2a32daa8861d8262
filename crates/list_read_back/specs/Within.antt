-- Which primitives the layout of lists has room for, and what is read back of their bytes: what the proofs need on the way to `Renders`. Definitions only.
use Rattle.std.specs.Prelude.{ℕ, ◌≤◌, List, [], ◌∷◌, map, ◌≡◌, true, Float, T, take, length}
use Rattle.std.specs.Float.{binary32}
use Rattle.std.specs.Float.Ieee.{fits}
use Rattle.tree.specs.Input.{Name}
use Rattle.tree.specs.Kinds.{ColorMatrixKind, Matrix, Saturate, HueRotate, LuminanceToAlpha, TransferFunction, Identity, Table, Discrete, Linear, Gamma, Kind, Blend, ColorMatrix, ComponentTransfer, Composite, ConvolveMatrix}
use Rattle.tree.specs.Kinds.{DiffuseLighting, DisplacementMap, DropShadow, Flood, GaussianBlur, Image, Merge, Morphology, Offset, SpecularLighting, Tile, Turbulence, Primitive, inputs_of}
use Rattle.list_read.specs.Records.{ListRecord, form1, text_fits}
use Rattle.list_read.specs.Lists.{read_list}
use Rattle.list_read.specs.Read.{got}
use Rattle.list_read.specs.Patterns.{list_patterns}
use Rattle.list_read.specs.Write.{inputs_fit}
use Rattle.naming.specs.Agreement.{ChildNames, Agrees}
use Rattle.list_read_back.specs.Claim.{read_names, NoNan}

-- a value of the format: what an f32 can be
abbrev pub Fits : Float → Type 0
Fits x = T (fits binary32 x)

-- The first `n` bytes of the output are a list in form 1. At every input of it, the reader's lookup among the records before gives what the rule
-- gives among the children before; and no pattern of an f32 in it is a NaN's
pub record Reads (out : List ℕ) (n : ℕ) (children : List ChildNames) : Type 0 where
  pub records : List (ListRecord Name)
  pub read : read_list form1 (take n out) ≡ got records []
  pub agrees : Agrees children (map read_names records)
  pub numbers : NoNan (list_patterns records)

-- The limits that the converter's lists keep

abbrev pub TransferWithin : TransferFunction → Type 0
TransferWithin Identity = Unit {0}
TransferWithin (Table xs) = length xs ≤ 1024
TransferWithin (Discrete xs) = length xs ≤ 1024
TransferWithin (Linear slope intercept) = Unit {0}
TransferWithin (Gamma amplitude exponent offset) = Unit {0}

abbrev pub ColorMatrixWithin : ColorMatrixKind → Type 0
ColorMatrixWithin (Matrix xs) = length xs ≡ 20
ColorMatrixWithin (Saturate x) = Unit {0}
ColorMatrixWithin (HueRotate x) = Unit {0}
ColorMatrixWithin LuminanceToAlpha = Unit {0}

-- "1,024 numbers in one Vec", "511 inputs in one merge", "a colour matrix [with] 20 numbers"
abbrev pub KindWithin : {A : Type 0} → Kind A → Type 0
KindWithin (Blend a b v) = Unit {0}
KindWithin (ColorMatrix a v) = ColorMatrixWithin v
KindWithin (ComponentTransfer a v) = TransferWithin v.func_r × TransferWithin v.func_g × TransferWithin v.func_b × TransferWithin v.func_a
KindWithin (Composite a b v) = Unit {0}
KindWithin (ConvolveMatrix a v) = length v.matrix.numbers ≤ 1024
KindWithin (DiffuseLighting a v) = Unit {0}
KindWithin (DisplacementMap a b v) = Unit {0}
KindWithin (DropShadow a v) = Unit {0}
KindWithin (Flood v) = Unit {0}
KindWithin (GaussianBlur a v) = Unit {0}
KindWithin (Image never) = Unit {0}
KindWithin (Merge inputs) = length inputs ≤ 511
KindWithin (Morphology a v) = Unit {0}
KindWithin (Offset a v) = Unit {0}
KindWithin (SpecularLighting a v) = Unit {0}
KindWithin (Tile a) = Unit {0}
KindWithin (Turbulence v) = Unit {0}

-- "255 bytes in one text", which is UTF-8
pub record Within (p : Primitive) : Type 0 where
  pub name : text_fits p.result ≡ true
  pub inputs : inputs_fit form1 (inputs_of p.kind) ≡ true
  pub counts : KindWithin p.kind

unfoldable pub AllWithin : List Primitive → Type 0
AllWithin [] = Unit {0}
AllWithin (p ∷ ps) = Within p × AllWithin ps
