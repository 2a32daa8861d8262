-- How many bytes each value is. Assumes nothing.
use Rattle.std.specs.Prelude.{Float, None, Option, Some}
use Prim.Native.Nat.{ℕ, suc, ◌+◌, ◌*◌}
use native.Mathlib.Omega.{arith}
use mathlib.Core.Path.{◌≡◌, refl, ap}
use mathlib.Core.List.{List, [], ◌∷◌, map}
use lib.ListN.{length, length-append, length-map}
use Rattle.bits.specs.Bytes.{bytes16, bytes32}
use Rattle.bits.specs.Texts.{text_is}
use Rattle.bits.specs.declared.Text.{Text}
use Rattle.bits.proofs.Runs.{length-bytes_from}
use Rattle.tree.specs.Input.{Name, text_bytes}
use Rattle.tree.specs.declared.Color.{Color}
use Rattle.tree.specs.declared.DistantLight.{DistantLight}
use Rattle.tree.specs.declared.PointLight.{PointLight}
use Rattle.tree.specs.declared.SpotLight.{SpotLight}
use Rattle.geom.specs.declared.Rect.{Rect}
use Rattle.tree.specs.Scalars.{i32_bytes, color_bytes, rect_bytes, option_bytes}
use Rattle.tree.specs.Kinds as kind
use Rattle.tree.specs.Kinds.{Kind, ColorMatrixKind, Matrix, Saturate, HueRotate, LuminanceToAlpha, TransferFunction, Identity, Table, Discrete, Linear, Gamma, ComponentTransferFields, ConvolveMatrixData, ConvolveMatrixFields, Primitive}
use Rattle.tree.specs.Fields.{field_bytes, color_matrix_kind_bytes, transfer_function_bytes, component_transfer_bytes, composite_operator_bytes, convolve_matrix_data_bytes, convolve_matrix_bytes, distant_light_bytes, triple_bytes, point_light_bytes, spot_light_bytes, light_source_bytes, diffuse_lighting_bytes, displacement_map_bytes, drop_shadow_bytes, flood_bytes, gaussian_blur_bytes, morphology_bytes, offset_bytes, specular_lighting_bytes, turbulence_bytes}
use Rattle.tree.specs.Sizes.{field_size, color_matrix_kind_size, transfer_function_size, component_transfer_size, composite_operator_size, convolve_matrix_data_size, convolve_matrix_size, spot_light_size, light_source_size, diffuse_lighting_size, specular_lighting_size, option_size, total}
use Rattle.tree.specs.List.{primitive_size, records_bytes, list_bytes}
use Rattle.tree.specs.declared.CompositeOperator.{CompositeOperator}
use Rattle.tree.specs.declared.CompositeOperator.TheVariants.{Over, In, Out, Atop, Xor, Lighter, Arithmetic}
use Rattle.tree.specs.declared.LightSource.{LightSource}
use Rattle.tree.specs.declared.LightSource.TheVariants as light
use Rattle.tree.specs.declared.DiffuseLighting.{DiffuseLighting}
use Rattle.tree.specs.declared.DisplacementMap.{DisplacementMap}
use Rattle.tree.specs.declared.DropShadow.{DropShadow}
use Rattle.tree.specs.declared.Flood.{Flood}
use Rattle.tree.specs.declared.GaussianBlur.{GaussianBlur}
use Rattle.tree.specs.declared.Morphology.{Morphology}
use Rattle.tree.specs.declared.Offset.{Offset}
use Rattle.tree.specs.declared.SpecularLighting.{SpecularLighting}
use Rattle.tree.specs.declared.Turbulence.{Turbulence}
use Rattle.tree.proofs.Runs.{length_numbers}
use Rattle.tree.proofs.Pairs.{length_pairs}

pub length_text : (t : Name) → length (text_bytes t) ≡ 2 + length t
unfolding text_bytes bytes16
length_text t = simp length-append

-- a text that the code has as a place in the lent bytes
pub length_own : (s : List ℕ) (t : Text) → length (text_bytes (text_is s t)) ≡ 2 + t.len
length_own s t = simp (length_text, length-bytes_from)

pub length_color : (v : Color) → length (color_bytes v) ≡ 3
unfolding color_bytes
length_color v = refl

pub length_rect : (r : Rect) → length (rect_bytes r) ≡ 16
unfolding rect_bytes bytes32
length_rect r = refl

pub length_option : (v : Option Float) → length (option_bytes v) ≡ option_size v
unfolding option_bytes bytes32
length_option None = refl
length_option (Some x) = refl

pub length-color_matrix_kind : (v : ColorMatrixKind) → length (color_matrix_kind_bytes v) ≡ color_matrix_kind_size v
unfolding color_matrix_kind_bytes bytes32
length-color_matrix_kind (Matrix xs) = omega (arith, length_numbers xs)
length-color_matrix_kind (Saturate x) = refl
length-color_matrix_kind (HueRotate x) = refl
length-color_matrix_kind LuminanceToAlpha = refl

pub length-transfer_function : (v : TransferFunction) → length (transfer_function_bytes v) ≡ transfer_function_size v
unfolding transfer_function_bytes bytes32
length-transfer_function Identity = refl
length-transfer_function (Table xs) = omega (arith, length_numbers xs)
length-transfer_function (Discrete xs) = omega (arith, length_numbers xs)
length-transfer_function (Linear slope intercept) = refl
length-transfer_function (Gamma amplitude exponent offset) = refl

pub component_transfer_parts : (v : ComponentTransferFields) → length (component_transfer_bytes v) ≡ length (transfer_function_bytes v.func_r) + length (transfer_function_bytes v.func_g) + length (transfer_function_bytes v.func_b) + length (transfer_function_bytes v.func_a)
unfolding component_transfer_bytes
component_transfer_parts v = simp length-append

pub length_component_transfer : (v : ComponentTransferFields) → length (component_transfer_bytes v) ≡ component_transfer_size v
length_component_transfer v =
    omega (arith, component_transfer_parts v, length-transfer_function v.func_r, length-transfer_function v.func_g, length-transfer_function v.func_b, length-transfer_function v.func_a)

pub length-composite_operator : (v : CompositeOperator) → length (composite_operator_bytes v) ≡ composite_operator_size v
unfolding composite_operator_bytes bytes32
length-composite_operator Over = refl
length-composite_operator In = refl
length-composite_operator Out = refl
length-composite_operator Atop = refl
length-composite_operator Xor = refl
length-composite_operator Lighter = refl
length-composite_operator (Arithmetic k1 k2 k3 k4) = refl

pub length_convolve_matrix_data : (v : ConvolveMatrixData) → length (convolve_matrix_data_bytes v) ≡ convolve_matrix_data_size v
unfolding convolve_matrix_data_bytes bytes32
length_convolve_matrix_data v = omega (arith, length_numbers v.numbers)

pub length_convolve_matrix : (v : ConvolveMatrixFields) → length (convolve_matrix_bytes v) ≡ convolve_matrix_size v
unfolding convolve_matrix_bytes bytes32
length_convolve_matrix v = simp (length-append, length_convolve_matrix_data) (omega arith)

pub length_distant_light : (l : DistantLight) → length (distant_light_bytes l) ≡ 8
unfolding distant_light_bytes bytes32
length_distant_light l = refl

pub length_point_light : (l : PointLight) → length (point_light_bytes l) ≡ 12
unfolding point_light_bytes triple_bytes bytes32
length_point_light l = refl

pub length_spot_light : (l : SpotLight) → length (spot_light_bytes l) ≡ spot_light_size l
unfolding spot_light_bytes triple_bytes bytes32
length_spot_light l = omega (arith, length_option l.limiting_cone_angle)

pub length-light_source : (v : LightSource) → length (light_source_bytes v) ≡ light_source_size v
unfolding light_source_bytes
length-light_source (light.DistantLight l) = ap suc (length_distant_light l)
length-light_source (light.PointLight l) = ap suc (length_point_light l)
length-light_source (light.SpotLight l) = omega (arith, length_spot_light l)

pub length_diffuse_lighting : (v : DiffuseLighting) → length (diffuse_lighting_bytes v) ≡ diffuse_lighting_size v
unfolding diffuse_lighting_bytes color_bytes bytes32
length_diffuse_lighting v = omega (arith, length-light_source v.light_source)

pub length_specular_lighting : (v : SpecularLighting) → length (specular_lighting_bytes v) ≡ specular_lighting_size v
unfolding specular_lighting_bytes color_bytes bytes32
length_specular_lighting v = omega (arith, length-light_source v.light_source)

pub length_displacement_map : (v : DisplacementMap) → length (displacement_map_bytes v) ≡ 6
unfolding displacement_map_bytes bytes32
length_displacement_map v = refl

pub length-drop_shadow : (v : DropShadow) → length (drop_shadow_bytes v) ≡ 23
unfolding drop_shadow_bytes color_bytes bytes32
length-drop_shadow v = refl

pub length_flood : (v : Flood) → length (flood_bytes v) ≡ 7
unfolding flood_bytes color_bytes bytes32
length_flood v = refl

pub length_gaussian_blur : (v : GaussianBlur) → length (gaussian_blur_bytes v) ≡ 8
unfolding gaussian_blur_bytes bytes32
length_gaussian_blur v = refl

pub length_morphology : (v : Morphology) → length (morphology_bytes v) ≡ 9
unfolding morphology_bytes bytes32
length_morphology v = refl

pub length_offset : (v : Offset) → length (offset_bytes v) ≡ 8
unfolding offset_bytes bytes32
length_offset v = refl

pub length_turbulence : (v : Turbulence) → length (turbulence_bytes v) ≡ 18
unfolding turbulence_bytes i32_bytes bytes32
length_turbulence v = refl

pub length_fields : {A : Type 0} (k : Kind A) → length (field_bytes k) ≡ field_size k
length_fields (kind.Blend a b v) = refl
length_fields (kind.ColorMatrix a v) = length-color_matrix_kind v
length_fields (kind.ComponentTransfer a v) = length_component_transfer v
length_fields (kind.Composite a b v) = length-composite_operator v
length_fields (kind.ConvolveMatrix a v) = length_convolve_matrix v
length_fields (kind.DiffuseLighting a v) = length_diffuse_lighting v
length_fields (kind.DisplacementMap a b v) = length_displacement_map v
length_fields (kind.DropShadow a v) = length-drop_shadow v
length_fields (kind.Flood v) = length_flood v
length_fields (kind.GaussianBlur a v) = length_gaussian_blur v
length_fields (kind.Image never) = refl
length_fields (kind.Merge inputs) = refl
length_fields (kind.Morphology a v) = length_morphology v
length_fields (kind.Offset a v) = length_offset v
length_fields (kind.SpecularLighting a v) = length_specular_lighting v
length_fields (kind.Tile a) = refl
length_fields (kind.Turbulence v) = length_turbulence v

-- a list: its count, its pairs and its records
length_records : (ps : List Primitive) → length (records_bytes ps) ≡ total (map primitive_size ps)
unfolding records_bytes total
length_records [] = refl
length_records (p ∷ ps) = simp (length-append, length_records ps) (omega arith)

pub length_list : (ps : List Primitive) → length (list_bytes ps) ≡ 2 + 8 * length ps + total (map primitive_size ps)
unfolding list_bytes bytes16
length_list ps = simp (length-append, length_records, length_pairs, length-map) (omega arith)
