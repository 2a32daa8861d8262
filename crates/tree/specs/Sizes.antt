-- How many bytes each value takes, where that differs from value to value: the lengths of the bytes in Scalars.antt and Fields.antt, as
-- proofs/Lengths.antt says of each. Definitions only.
use Rattle.std.specs.Prelude.{ℕ, ◌+◌, ◌*◌, List, [], ◌∷◌, Float, length, None, Option, Some}
use Rattle.tree.specs.Kinds as kind
use Rattle.tree.specs.Kinds.{Kind, ColorMatrixKind, Matrix, Saturate, HueRotate, LuminanceToAlpha, TransferFunction, Identity, Table, Discrete, Linear, Gamma, ComponentTransferFields, ConvolveMatrixData, ConvolveMatrixFields}
use Rattle.tree.specs.declared.CompositeOperator.{CompositeOperator}
use Rattle.tree.specs.declared.CompositeOperator.TheVariants.{Over, In, Out, Atop, Xor, Lighter, Arithmetic}
use Rattle.tree.specs.declared.SpotLight.{SpotLight}
use Rattle.tree.specs.declared.LightSource.{LightSource}
use Rattle.tree.specs.declared.LightSource.TheVariants as light
use Rattle.tree.specs.declared.DiffuseLighting.{DiffuseLighting}
use Rattle.tree.specs.declared.SpecularLighting.{SpecularLighting}

abbrev pub option_size : Option Float → ℕ
option_size None = 1
option_size (Some x) = 5

abbrev pub numbers_size : List Float → ℕ
numbers_size xs = 2 + 4 * length xs

abbrev pub color_matrix_kind_size : ColorMatrixKind → ℕ
color_matrix_kind_size (Matrix xs) = 1 + numbers_size xs
color_matrix_kind_size (Saturate x) = 5
color_matrix_kind_size (HueRotate x) = 5
color_matrix_kind_size LuminanceToAlpha = 1

abbrev pub transfer_function_size : TransferFunction → ℕ
transfer_function_size Identity = 1
transfer_function_size (Table xs) = 1 + numbers_size xs
transfer_function_size (Discrete xs) = 1 + numbers_size xs
transfer_function_size (Linear slope intercept) = 9
transfer_function_size (Gamma amplitude exponent offset) = 13

abbrev pub component_transfer_size : ComponentTransferFields → ℕ
component_transfer_size v =
    transfer_function_size v.func_r
    + transfer_function_size v.func_g
    + transfer_function_size v.func_b
    + transfer_function_size v.func_a

abbrev pub composite_operator_size : CompositeOperator → ℕ
composite_operator_size Over = 1
composite_operator_size In = 1
composite_operator_size Out = 1
composite_operator_size Atop = 1
composite_operator_size Xor = 1
composite_operator_size Lighter = 1
composite_operator_size (Arithmetic k1 k2 k3 k4) = 17

abbrev pub convolve_matrix_data_size : ConvolveMatrixData → ℕ
convolve_matrix_data_size v = 16 + numbers_size v.numbers

abbrev pub convolve_matrix_size : ConvolveMatrixFields → ℕ
convolve_matrix_size v = convolve_matrix_data_size v.matrix + 10

abbrev pub spot_light_size : SpotLight → ℕ
spot_light_size l = 28 + option_size l.limiting_cone_angle

abbrev pub light_source_size : LightSource → ℕ
light_source_size (light.DistantLight l) = 9
light_source_size (light.PointLight l) = 13
light_source_size (light.SpotLight l) = 1 + spot_light_size l

abbrev pub diffuse_lighting_size : DiffuseLighting → ℕ
diffuse_lighting_size v = 11 + light_source_size v.light_source

abbrev pub specular_lighting_size : SpecularLighting → ℕ
specular_lighting_size v = 15 + light_source_size v.light_source

abbrev pub field_size : {A : Type 0} → Kind A → ℕ
field_size (kind.Blend a b v) = 1
field_size (kind.ColorMatrix a v) = color_matrix_kind_size v
field_size (kind.ComponentTransfer a v) = component_transfer_size v
field_size (kind.Composite a b v) = composite_operator_size v
field_size (kind.ConvolveMatrix a v) = convolve_matrix_size v
field_size (kind.DiffuseLighting a v) = diffuse_lighting_size v
field_size (kind.DisplacementMap a b v) = 6
field_size (kind.DropShadow a v) = 23
field_size (kind.Flood v) = 7
field_size (kind.GaussianBlur a v) = 8
field_size (kind.Image never) = 0
field_size (kind.Merge inputs) = 0
field_size (kind.Morphology a v) = 9
field_size (kind.Offset a v) = 8
field_size (kind.SpecularLighting a v) = specular_lighting_size v
field_size (kind.Tile a) = 0
field_size (kind.Turbulence v) = 18

-- the sum of some sizes
unfoldable pub total : List ℕ → ℕ
total [] = 0
total (k ∷ ks) = k + total ks
