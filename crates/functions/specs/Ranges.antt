-- What holds of the numbers of a function's kind: none is NaN, a saturation and a deviation are positive, an opacity is 0 to 1, a matrix has twenty
-- numbers. Definitions only.
use Rattle.std.specs.Prelude.{◌≡◌, T, length}
use Rattle.num.specs.Sign.{positive}
use Rattle.tree.specs.Input.{Input}
use Rattle.tree.specs.Kinds.{Kind, ColorMatrix, ComponentTransfer, DropShadow, GaussianBlur, ColorMatrixKind, Matrix, Saturate, HueRotate, LuminanceToAlpha, ComponentTransferFields}
use Rattle.tree.specs.declared.GaussianBlur.{GaussianBlur as GaussianBlurFields}
use Rattle.tree.specs.declared.DropShadow.{DropShadow as DropShadowFields}
use Rattle.fe_blur.specs.Ranges.{GaussianBlurRange, DropShadowRange}
use Rattle.num.specs.Numbers.{Each, IsNumber}
use Rattle.fe_color.specs.Ranges.{component_transfer_numbers}

-- a positive number is finite, so it is no NaN. No function gives luminanceToAlpha.
abbrev pub FunctionMatrixRange : ColorMatrixKind → Type 0
FunctionMatrixRange (Matrix xs) = (length xs ≡ 20) × Each IsNumber xs
FunctionMatrixRange (Saturate x) = T (positive x)
FunctionMatrixRange (HueRotate x) = IsNumber x
FunctionMatrixRange LuminanceToAlpha = ⊥

-- a function's kind is one of four. Deviations are positive and an opacity lies between 0 and 1, so these are no NaN either.
pub data FunctionRange : Kind Input → Type 0 where
  of_color_matrix : {a : Input} {v : ColorMatrixKind} → FunctionMatrixRange v → FunctionRange (ColorMatrix a v)
  of_component_transfer : {a : Input} {v : ComponentTransferFields} → Each IsNumber (component_transfer_numbers v) → FunctionRange (ComponentTransfer a v)
  of_gaussian_blur : {a : Input} {v : GaussianBlurFields} → GaussianBlurRange v → FunctionRange (GaussianBlur a v)
  of_drop_shadow : {a : Input} {v : DropShadowFields} → DropShadowRange v → FunctionRange (DropShadow a v)
