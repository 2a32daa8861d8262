-- "an enum as its place in the declaration, then its fields": the fields of each kind, in the order of the declaration and
-- without its inputs. Definitions only.
use Rattle.std.specs.Prelude.{ℕ, List, [], ◌∷◌, ◌++◌, Float}
use Rattle.bits.specs.Bytes.{bytes32, bytes_f}
use Rattle.tree.specs.Scalars.{bool_byte, i32_bytes, color_bytes, option_bytes, numbers_bytes}
use Rattle.tree.specs.Places.{blend_mode_place, edge_mode_place, color_channel_place, morphology_operator_place, turbulence_kind_place}
use Rattle.tree.specs.Kinds as kind
use Rattle.tree.specs.Kinds.{Kind, ColorMatrixKind, Matrix, Saturate, HueRotate, LuminanceToAlpha, TransferFunction, Identity, Table, Discrete, Linear, Gamma, ComponentTransferFields, ConvolveMatrixData, ConvolveMatrixFields}
use Rattle.tree.specs.declared.CompositeOperator.{CompositeOperator}
use Rattle.tree.specs.declared.CompositeOperator.TheVariants.{Over, In, Out, Atop, Xor, Lighter, Arithmetic}
use Rattle.tree.specs.declared.DistantLight.{DistantLight}
use Rattle.tree.specs.declared.PointLight.{PointLight}
use Rattle.tree.specs.declared.SpotLight.{SpotLight}
use Rattle.tree.specs.declared.LightSource.{LightSource}
use Rattle.tree.specs.declared.LightSource.TheVariants as light
use Rattle.tree.specs.declared.DiffuseLighting.{DiffuseLighting}
use Rattle.tree.specs.declared.DisplacementMap.{DisplacementMap}
use Rattle.tree.specs.declared.DropShadow.{DropShadow}
use Rattle.tree.specs.declared.Flood.{Flood}
use Rattle.tree.specs.declared.GaussianBlur.{GaussianBlur}
use Rattle.tree.specs.declared.Morphology.{Morphology}
use Rattle.tree.specs.declared.Offset.{Offset}
use Rattle.tree.specs.declared.SpecularLighting.{SpecularLighting}
use Rattle.tree.specs.declared.Turbulence.{Turbulence}

unfoldable pub color_matrix_kind_bytes : ColorMatrixKind → List ℕ
color_matrix_kind_bytes (Matrix xs) = (0 ∷ []) ++ numbers_bytes xs
color_matrix_kind_bytes (Saturate x) = (1 ∷ []) ++ bytes_f x
color_matrix_kind_bytes (HueRotate x) = (2 ∷ []) ++ bytes_f x
color_matrix_kind_bytes LuminanceToAlpha = 3 ∷ []

unfoldable pub transfer_function_bytes : TransferFunction → List ℕ
transfer_function_bytes Identity = 0 ∷ []
transfer_function_bytes (Table xs) = (1 ∷ []) ++ numbers_bytes xs
transfer_function_bytes (Discrete xs) = (2 ∷ []) ++ numbers_bytes xs
transfer_function_bytes (Linear slope intercept) = (3 ∷ []) ++ bytes_f slope ++ bytes_f intercept
transfer_function_bytes (Gamma amplitude exponent offset) = (4 ∷ []) ++ bytes_f amplitude ++ bytes_f exponent ++ bytes_f offset

unfoldable pub component_transfer_bytes : ComponentTransferFields → List ℕ
component_transfer_bytes v =
    transfer_function_bytes v.func_r
    ++ transfer_function_bytes v.func_g
    ++ transfer_function_bytes v.func_b
    ++ transfer_function_bytes v.func_a

unfoldable pub composite_operator_bytes : CompositeOperator → List ℕ
composite_operator_bytes Over = 0 ∷ []
composite_operator_bytes In = 1 ∷ []
composite_operator_bytes Out = 2 ∷ []
composite_operator_bytes Atop = 3 ∷ []
composite_operator_bytes Xor = 4 ∷ []
composite_operator_bytes Lighter = 5 ∷ []
composite_operator_bytes (Arithmetic k1 k2 k3 k4) = (6 ∷ []) ++ bytes_f k1 ++ bytes_f k2 ++ bytes_f k3 ++ bytes_f k4

-- the struct's fields stand where the field `matrix` does
unfoldable pub convolve_matrix_data_bytes : ConvolveMatrixData → List ℕ
convolve_matrix_data_bytes v =
    bytes32 v.target_x
    ++ bytes32 v.target_y
    ++ bytes32 v.columns
    ++ bytes32 v.rows
    ++ numbers_bytes v.numbers

unfoldable pub convolve_matrix_bytes : ConvolveMatrixFields → List ℕ
convolve_matrix_bytes v =
    convolve_matrix_data_bytes v.matrix
    ++ bytes_f v.divisor
    ++ bytes_f v.bias
    ++ (edge_mode_place v.edge_mode ∷ [])
    ++ (bool_byte v.preserve_alpha ∷ [])

unfoldable pub distant_light_bytes : DistantLight → List ℕ
distant_light_bytes l = bytes_f l.azimuth ++ bytes_f l.elevation

-- three numbers: the place of a light, or the point that it is turned to
unfoldable pub triple_bytes : Float → Float → Float → List ℕ
triple_bytes x y z = bytes_f x ++ bytes_f y ++ bytes_f z

unfoldable pub point_light_bytes : PointLight → List ℕ
point_light_bytes l = triple_bytes l.x l.y l.z

unfoldable pub spot_light_bytes : SpotLight → List ℕ
spot_light_bytes l =
    triple_bytes l.x l.y l.z
    ++ triple_bytes l.points_at_x l.points_at_y l.points_at_z
    ++ bytes_f l.specular_exponent
    ++ option_bytes l.limiting_cone_angle

unfoldable pub light_source_bytes : LightSource → List ℕ
light_source_bytes (light.DistantLight l) = (0 ∷ []) ++ distant_light_bytes l
light_source_bytes (light.PointLight l) = (1 ∷ []) ++ point_light_bytes l
light_source_bytes (light.SpotLight l) = (2 ∷ []) ++ spot_light_bytes l

unfoldable pub diffuse_lighting_bytes : DiffuseLighting → List ℕ
diffuse_lighting_bytes v =
    bytes_f v.surface_scale ++ bytes_f v.diffuse_constant ++ color_bytes v.lighting_color ++ light_source_bytes v.light_source

unfoldable pub displacement_map_bytes : DisplacementMap → List ℕ
displacement_map_bytes v =
    bytes_f v.scale ++ (color_channel_place v.x_channel_selector ∷ []) ++ (color_channel_place v.y_channel_selector ∷ [])

unfoldable pub drop_shadow_bytes : DropShadow → List ℕ
drop_shadow_bytes v =
    bytes_f v.dx
    ++ bytes_f v.dy
    ++ bytes_f v.std_dev_x
    ++ bytes_f v.std_dev_y
    ++ color_bytes v.color
    ++ bytes_f v.opacity

unfoldable pub flood_bytes : Flood → List ℕ
flood_bytes v = color_bytes v.color ++ bytes_f v.opacity

unfoldable pub gaussian_blur_bytes : GaussianBlur → List ℕ
gaussian_blur_bytes v = bytes_f v.std_dev_x ++ bytes_f v.std_dev_y

unfoldable pub morphology_bytes : Morphology → List ℕ
morphology_bytes v = (morphology_operator_place v.operator ∷ []) ++ bytes_f v.radius_x ++ bytes_f v.radius_y

unfoldable pub offset_bytes : Offset → List ℕ
offset_bytes v = bytes_f v.dx ++ bytes_f v.dy

unfoldable pub specular_lighting_bytes : SpecularLighting → List ℕ
specular_lighting_bytes v =
    bytes_f v.surface_scale
    ++ bytes_f v.specular_constant
    ++ bytes_f v.specular_exponent
    ++ color_bytes v.lighting_color
    ++ light_source_bytes v.light_source

unfoldable pub turbulence_bytes : Turbulence → List ℕ
turbulence_bytes v =
    bytes_f v.base_frequency_x
    ++ bytes_f v.base_frequency_y
    ++ bytes32 v.num_octaves
    ++ i32_bytes v.seed
    ++ (bool_byte v.stitch_tiles ∷ [])
    ++ (turbulence_kind_place v.kind ∷ [])

-- the fields of a kind after its inputs, which come first in every kind
abbrev pub field_bytes : {A : Type 0} → Kind A → List ℕ
field_bytes (kind.Blend a b v) = blend_mode_place v ∷ []
field_bytes (kind.ColorMatrix a v) = color_matrix_kind_bytes v
field_bytes (kind.ComponentTransfer a v) = component_transfer_bytes v
field_bytes (kind.Composite a b v) = composite_operator_bytes v
field_bytes (kind.ConvolveMatrix a v) = convolve_matrix_bytes v
field_bytes (kind.DiffuseLighting a v) = diffuse_lighting_bytes v
field_bytes (kind.DisplacementMap a b v) = displacement_map_bytes v
field_bytes (kind.DropShadow a v) = drop_shadow_bytes v
field_bytes (kind.Flood v) = flood_bytes v
field_bytes (kind.GaussianBlur a v) = gaussian_blur_bytes v
field_bytes (kind.Image never) = []
field_bytes (kind.Merge inputs) = []
field_bytes (kind.Morphology a v) = morphology_bytes v
field_bytes (kind.Offset a v) = offset_bytes v
field_bytes (kind.SpecularLighting a v) = specular_lighting_bytes v
field_bytes (kind.Tile a) = []
field_bytes (kind.Turbulence v) = turbulence_bytes v
