-- The numbers of these kinds, and the ranges that hold of them. Definitions only.
use Rattle.std.specs.Prelude.{◌≡◌, List, [], ◌∷◌, ◌++◌, T, length, Float}
use Rattle.std.specs.Float.Ieee.{le}
use Rattle.tree.specs.Kinds.{ColorMatrixKind, Matrix, Saturate, HueRotate, LuminanceToAlpha, TransferFunction, Identity, Table, Discrete, Linear, Gamma, ComponentTransferFields}
use Rattle.tree.specs.declared.CompositeOperator.{CompositeOperator}
use Rattle.tree.specs.declared.CompositeOperator.TheVariants.{Over, In, Out, Atop, Xor, Lighter, Arithmetic}
use Rattle.num.specs.Constants.{plus_zero, one}

-- the numbers of a value, in the order of its fields

abbrev pub color_matrix_numbers : ColorMatrixKind → List Float
color_matrix_numbers (Matrix xs) = xs
color_matrix_numbers (Saturate x) = x ∷ []
color_matrix_numbers (HueRotate x) = x ∷ []
color_matrix_numbers LuminanceToAlpha = []

abbrev pub transfer_function_numbers : TransferFunction → List Float
transfer_function_numbers Identity = []
transfer_function_numbers (Table xs) = xs
transfer_function_numbers (Discrete xs) = xs
transfer_function_numbers (Linear slope intercept) = slope ∷ intercept ∷ []
transfer_function_numbers (Gamma amplitude exponent offset) = amplitude ∷ exponent ∷ offset ∷ []

abbrev pub component_transfer_numbers : ComponentTransferFields → List Float
component_transfer_numbers v =
    transfer_function_numbers v.func_r
    ++ transfer_function_numbers v.func_g
    ++ transfer_function_numbers v.func_b
    ++ transfer_function_numbers v.func_a

abbrev pub operator_numbers : CompositeOperator → List Float
operator_numbers Over = []
operator_numbers In = []
operator_numbers Out = []
operator_numbers Atop = []
operator_numbers Xor = []
operator_numbers Lighter = []
operator_numbers (Arithmetic k1 k2 k3 k4) = k1 ∷ k2 ∷ k3 ∷ k4 ∷ []

-- a matrix has twenty numbers; a saturation lies between 0 and 1
abbrev pub ColorMatrixRange : ColorMatrixKind → Type 0
ColorMatrixRange (Matrix xs) = length xs ≡ 20
ColorMatrixRange (Saturate x) = T (le plus_zero x) × T (le x one)
ColorMatrixRange (HueRotate x) = Unit {0}
ColorMatrixRange LuminanceToAlpha = Unit {0}
