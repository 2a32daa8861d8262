-- The element feColorMatrix (Filter Effects Module Level 1): its attributes `type` and `values`. Definitions only.
use Rattle.std.specs.Prelude.{cond, List, [], ◌∷◌, eqb, length, Float, None, Option, Some}
use Rattle.names.specs.Ids.{aid_type, aid_values}
use Rattle.num.specs.Constants.{plus_zero, one}
use Rattle.num.specs.Sign.{f32_bound}
use Rattle.svgtree.specs.Values.{Node}
use Rattle.svgtree.specs.Readers.{text_of, numbers_of}
use Rattle.tree.specs.Kinds.{ColorMatrixKind, Matrix, Saturate, HueRotate, LuminanceToAlpha, identity_matrix}
use Rattle.fe.specs.Keywords.{◌means◌, keyword}

-- the first number of a list, or the default where it has none
abbrev pub first_or : Float → List Float → Float
first_or default [] = default
first_or default (x ∷ xs) = x

-- `saturate`: one number, 1 where the list has none. The document: exactly one number, and nothing changes with another count (not certain). The crate: the
-- first of the list, held between 0 and 1. Without a list the document has 1, and the crate the matrix that changes nothing, which gives the same picture.
abbrev pub saturate_of : Option (List Float) → ColorMatrixKind
saturate_of None = Matrix identity_matrix
saturate_of (Some xs) = Saturate (f32_bound plus_zero (first_or one xs) one)

-- `hueRotate`: one number, an angle in degrees, 0 where the list has none. Longer lists and an absent one as above.
abbrev pub hue_rotate_of : Option (List Float) → ColorMatrixKind
hue_rotate_of None = Matrix identity_matrix
hue_rotate_of (Some xs) = HueRotate (first_or plus_zero xs)

-- `matrix`: twenty numbers; with any other count, or without a list, nothing changes
abbrev pub matrix_of : Option (List Float) → ColorMatrixKind
matrix_of None = Matrix identity_matrix
matrix_of (Some xs) = cond (eqb (length xs) 20) (Matrix xs) (Matrix identity_matrix)

-- `type` is `matrix` where it is absent or another text
abbrev pub color_matrix_kind_of : Node → ColorMatrixKind
color_matrix_kind_of n =
    keyword
    ("saturate" means saturate_of (numbers_of n aid_values)
    ∷ "hueRotate" means hue_rotate_of (numbers_of n aid_values)
    ∷ "luminanceToAlpha" means LuminanceToAlpha
    ∷ [])
    (matrix_of (numbers_of n aid_values))
    (text_of n aid_type)
