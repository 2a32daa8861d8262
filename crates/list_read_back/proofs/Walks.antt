-- The layout's walk over the fields of each kind passes all of their bytes, and gives the bit patterns of its numbers. Assumes nothing.
use Rattle.std.specs.Prelude.{Float, None, Option, Some}
use Prim.Native.Nat.{ℕ, ◌+◌, ◌*◌, ◌/◌, ◌%◌, ◌<◌, ◌≤◌}
use native.Mathlib.Omega.{arith}
use mathlib.Core.Path.{◌≡◌, refl, sym, ap, ◌∙◌}
use mathlib.Core.Bool.{Bool, true, false}
use mathlib.Core.List.{List, [], ◌∷◌, ◌++◌, map, map-append, append_assoc, append-nil}
use borrow.Author.Tests.{le-leb}
use lib.Dec.{ltb}
use lib.ListN.{length}
use lib.Ieee.{Float, binary32, to_bits}
use Rattle.bits.specs.Bytes.{bytes16, bytes32, bytes_f}
use Rattle.tree.specs.Scalars.{bool_byte, option_bytes, i32_bytes, color_bytes, run_bytes, numbers_bytes}
use Rattle.tree.specs.Places.{kind_place, blend_mode_place, edge_mode_place, color_channel_place, morphology_operator_place, turbulence_kind_place}
use Rattle.tree.specs.Fields.{field_bytes, color_matrix_kind_bytes, transfer_function_bytes, component_transfer_bytes, composite_operator_bytes, convolve_matrix_data_bytes, convolve_matrix_bytes, distant_light_bytes, triple_bytes, point_light_bytes, spot_light_bytes, light_source_bytes, diffuse_lighting_bytes, displacement_map_bytes, drop_shadow_bytes, flood_bytes, gaussian_blur_bytes, morphology_bytes, offset_bytes, specular_lighting_bytes, turbulence_bytes}
use Rattle.tree.specs.Kinds.{ColorMatrixKind, Matrix, Saturate, HueRotate, LuminanceToAlpha, TransferFunction, Identity, Table, Discrete, Linear, Gamma, Kind, Blend, ColorMatrix, ComponentTransfer, Composite, ConvolveMatrix, DiffuseLighting, DisplacementMap, DropShadow, Flood, GaussianBlur, Image, Merge, Morphology, Offset, SpecularLighting, Tile, Turbulence, ComponentTransferFields, ConvolveMatrixFields}
use Rattle.tree.specs.declared.Color.{Color}
use Rattle.tree.specs.declared.DiffuseLighting.{DiffuseLighting as DiffuseFields}
use Rattle.tree.specs.declared.SpecularLighting.{SpecularLighting as SpecularFields}
use Rattle.list_read.specs.Patterns.{walk_kind}
use Rattle.tree.specs.declared.BlendMode.{BlendMode}
use Rattle.tree.specs.declared.BlendMode.TheVariants as blend
use Rattle.tree.specs.declared.EdgeMode.{EdgeMode}
use Rattle.tree.specs.declared.EdgeMode.TheVariants as edge
use Rattle.tree.specs.declared.ColorChannel.{ColorChannel}
use Rattle.tree.specs.declared.ColorChannel.TheVariants as channel
use Rattle.tree.specs.declared.MorphologyOperator.{MorphologyOperator}
use Rattle.tree.specs.declared.MorphologyOperator.TheVariants as operator
use Rattle.tree.specs.declared.TurbulenceKind.{TurbulenceKind}
use Rattle.tree.specs.declared.TurbulenceKind.TheVariants as noise
use Rattle.tree.specs.declared.CompositeOperator.{CompositeOperator}
use Rattle.tree.specs.declared.CompositeOperator.TheVariants as composite
use Rattle.tree.specs.declared.LightSource.{LightSource}
use Rattle.tree.specs.declared.LightSource.TheVariants as light
use Rattle.fe_color.specs.Ranges.{color_matrix_numbers, transfer_function_numbers, component_transfer_numbers, operator_numbers}
use Rattle.fe_light.specs.Ranges.{option_numbers, light_numbers, diffuse_numbers, specular_numbers}
use Rattle.ranges.specs.Numbers.{numbers_of_kind}
use Rattle.list_read.specs.Read.{got, read_below, read32, read_many}
use Rattle.list_read.specs.Layout.{byte_below, any_bytes, f32s, vec, Field, item, layout_of, walk_item, walk_items, walk_field, walk_fields, color_matrix_kind, transfer_function, composite_operator, light_source}
use Rattle.list_read.proofs.Back.{read16_back}
use Rattle.list_read_back.specs.Within.{TransferWithin, ColorMatrixWithin, KindWithin}

-- what the four bytes of a number are read as
abbrev pub pattern : ℕ → ℕ
pattern n = n % 256 + n / 256 % 256 * 256 + n / 65536 % 256 * 65536 + n / 16777216 % 256 * 16777216

abbrev pub pattern_of : Float → ℕ
pattern_of x = pattern (to_bits binary32 x)

pub read_pattern : (n : ℕ) (r : List ℕ) → read32 (bytes32 n ++ r) ≡ got (pattern n) r
unfolding read32 bytes32
read_pattern n r = refl

run_patterns : (xs : List Float) (r : List ℕ) → read_many read32 (length xs) (run_bytes xs ++ r) ≡ got (map pattern_of xs) r
unfolding read_many run_bytes
run_patterns [] r = refl
run_patterns (x ∷ xs) r = rw (append_assoc (bytes_f x) (run_bytes xs) r, read_pattern (to_bits binary32 x) (run_bytes xs ++ r), run_patterns xs r)

vec_walk : (low high : ℕ) (xs : List Float) (r : List ℕ) → low ≤ length xs → length xs ≤ high → high ≤ 1024 → walk_item (vec low high) (numbers_bytes xs ++ r) ≡ got (map pattern_of xs) r
unfolding walk_item numbers_bytes
vec_walk low high xs r h k m =
    let s : length xs < 65536 = omega arith in
    rw (append_assoc (bytes16 (length xs)) (run_bytes xs) r, read16_back (length xs) (run_bytes xs ++ r) s, le-leb low (length xs) h, le-leb (length xs) high k) (run_patterns xs r)

-- an enum's place is `byte_below` their number

blend_small : (v : BlendMode) → ltb (blend_mode_place v) 16 ≡ true
blend_small blend.Normal = refl
blend_small blend.Multiply = refl
blend_small blend.Screen = refl
blend_small blend.Overlay = refl
blend_small blend.Darken = refl
blend_small blend.Lighten = refl
blend_small blend.ColorDodge = refl
blend_small blend.ColorBurn = refl
blend_small blend.HardLight = refl
blend_small blend.SoftLight = refl
blend_small blend.Difference = refl
blend_small blend.Exclusion = refl
blend_small blend.Hue = refl
blend_small blend.Saturation = refl
blend_small blend.Color = refl
blend_small blend.Luminosity = refl

edge_small : (v : EdgeMode) → ltb (edge_mode_place v) 3 ≡ true
edge_small edge.None = refl
edge_small edge.Duplicate = refl
edge_small edge.Wrap = refl

channel_small : (v : ColorChannel) → ltb (color_channel_place v) 4 ≡ true
channel_small channel.R = refl
channel_small channel.G = refl
channel_small channel.B = refl
channel_small channel.A = refl

operator_small : (v : MorphologyOperator) → ltb (morphology_operator_place v) 2 ≡ true
operator_small operator.Erode = refl
operator_small operator.Dilate = refl

noise_small : (v : TurbulenceKind) → ltb (turbulence_kind_place v) 2 ≡ true
noise_small noise.FractalNoise = refl
noise_small noise.Turbulence = refl

bool_small : (v : Bool) → ltb (bool_byte v) 2 ≡ true
bool_small true = refl
bool_small false = refl

-- the enums whose cases hold numbers, before any bytes

vec_alone : (low high : ℕ) (xs : List Float) (r : List ℕ) → low ≤ length xs → length xs ≤ high → high ≤ 1024 → walk_items (vec low high ∷ []) (numbers_bytes xs ++ r) ≡ got (map pattern_of xs) r
unfolding walk_items
vec_alone low high xs r h k m = rw (vec_walk low high xs r h k m, append-nil (map pattern_of xs))

matrix_walk : (v : ColorMatrixKind) (r : List ℕ) → ColorMatrixWithin v → walk_field color_matrix_kind (color_matrix_kind_bytes v ++ r) ≡ got (map pattern_of (color_matrix_numbers v)) r
unfolding walk_field read_below color_matrix_kind_bytes walk_items walk_item read_many read32 bytes32
matrix_walk (Matrix xs) r h = vec_alone 20 20 xs r (omega arith) (omega arith) (omega arith)
matrix_walk (Saturate x) r h = refl
matrix_walk (HueRotate x) r h = refl
matrix_walk LuminanceToAlpha r h = refl

transfer_walk : (v : TransferFunction) (r : List ℕ) → TransferWithin v → walk_field transfer_function (transfer_function_bytes v ++ r) ≡ got (map pattern_of (transfer_function_numbers v)) r
unfolding walk_field read_below transfer_function_bytes walk_items walk_item read_many read32 bytes32
transfer_walk Identity r h = refl
transfer_walk (Table xs) r h = vec_alone 0 1024 xs r (omega arith) h (omega arith)
transfer_walk (Discrete xs) r h = vec_alone 0 1024 xs r (omega arith) h (omega arith)
transfer_walk (Linear slope intercept) r h = refl
transfer_walk (Gamma amplitude exponent offset) r h = refl

composite_walk : (v : CompositeOperator) (r : List ℕ) → walk_field composite_operator (composite_operator_bytes v ++ r) ≡ got (map pattern_of (operator_numbers v)) r
unfolding walk_field read_below composite_operator_bytes walk_items walk_item read_many read32 bytes32
composite_walk composite.Over r = refl
composite_walk composite.In r = refl
composite_walk composite.Out r = refl
composite_walk composite.Atop r = refl
composite_walk composite.Xor r = refl
composite_walk composite.Lighter r = refl
composite_walk (composite.Arithmetic k1 k2 k3 k4) r = refl

spot_walk : (a b c d e g h : Float) (v : Option Float) (r : List ℕ)
    → walk_field light_source (((2 ∷ []) ++ (triple_bytes a b c ++ triple_bytes d e g ++ bytes_f h ++ option_bytes v)) ++ r) ≡ got (map pattern_of (a ∷ b ∷ c ∷ d ∷ e ∷ g ∷ h ∷ option_numbers v)) r
unfolding walk_field read_below triple_bytes option_bytes walk_items walk_item read_many read32 bytes32
spot_walk a b c d e g h None r = refl
spot_walk a b c d e g h (Some x) r = refl

light_walk : (v : LightSource) (r : List ℕ) → walk_field light_source (light_source_bytes v ++ r) ≡ got (map pattern_of (light_numbers v)) r
unfolding walk_field read_below light_source_bytes distant_light_bytes point_light_bytes spot_light_bytes triple_bytes walk_items walk_item read_many read32 bytes32
light_walk (light.DistantLight l) r = refl
light_walk (light.PointLight l) r = refl
light_walk (light.SpotLight l) r = spot_walk l.x l.y l.z l.points_at_x l.points_at_y l.points_at_z l.specular_exponent l.limiting_cone_angle r

-- each kind

cons_walk : (f : Field) (fs : List Field) (a r na nr : List ℕ) → walk_field f (a ++ r) ≡ got na r → walk_fields fs r ≡ got nr [] → walk_fields (f ∷ fs) (a ++ r) ≡ got (na ++ nr) []
unfolding walk_fields
cons_walk f fs a r na nr h k = rw (h, k)

alone : (f : Field) (ys : List ℕ) (ns : List ℕ) → ((r : List ℕ) → walk_field f (ys ++ r) ≡ got ns r) → walk_fields (f ∷ []) ys ≡ got ns []
unfolding walk_fields
alone f ys ns h = rw (← append-nil ys, h [], append-nil ns)

four : (f : Field) (a b c d : List ℕ) (na nb nc nd : List ℕ)
    → ((r : List ℕ) → walk_field f (a ++ r) ≡ got na r) → ((r : List ℕ) → walk_field f (b ++ r) ≡ got nb r)
    → ((r : List ℕ) → walk_field f (c ++ r) ≡ got nc r) → ((r : List ℕ) → walk_field f (d ++ r) ≡ got nd r)
    → walk_fields (f ∷ f ∷ f ∷ f ∷ []) (a ++ b ++ c ++ d) ≡ got (na ++ nb ++ nc ++ nd) []
four f a b c d na nb nc nd ha hb hc hd =
    let e : a ++ b ++ c ++ d ≡ a ++ (b ++ (c ++ d)) = simp append_assoc in
    let n : na ++ (nb ++ (nc ++ nd)) ≡ na ++ nb ++ nc ++ nd = simp append_assoc in
    ap (walk_fields (f ∷ f ∷ f ∷ f ∷ [])) e
    ∙ cons_walk f (f ∷ f ∷ f ∷ []) a (b ++ (c ++ d)) na (nb ++ (nc ++ nd)) (ha (b ++ (c ++ d)))
    (cons_walk f (f ∷ f ∷ []) b (c ++ d) nb (nc ++ nd) (hb (c ++ d)) (cons_walk f (f ∷ []) c d nc nd (hc d) (alone f d nd hd)))
    ∙ ap (λ (l : List ℕ). got l []) n

floats2 : (x y : Float) (r : List ℕ) → walk_field (item (f32s 2)) ((bytes_f x ++ bytes_f y) ++ r) ≡ got (pattern_of x ∷ pattern_of y ∷ []) r
unfolding walk_field walk_item read_many read32 bytes32
floats2 x y r = refl

floats3 : (x y z : Float) (r : List ℕ) → walk_field (item (f32s 3)) ((bytes_f x ++ bytes_f y ++ bytes_f z) ++ r) ≡ got (pattern_of x ∷ pattern_of y ∷ pattern_of z ∷ []) r
unfolding walk_field walk_item read_many read32 bytes32
floats3 x y z r = refl

color3 : (c : Color) (r : List ℕ) → walk_field (item (any_bytes 3)) (color_bytes c ++ r) ≡ got [] r
unfolding walk_field walk_item read_many color_bytes
color3 c r = refl

free16 : (a b c d : ℕ) (r : List ℕ) → walk_field (item (any_bytes 16)) ((bytes32 a ++ bytes32 b ++ bytes32 c ++ bytes32 d) ++ r) ≡ got [] r
unfolding walk_field walk_item read_many bytes32
free16 a b c d r = refl

vec_field : (xs : List Float) (r : List ℕ) → length xs ≤ 1024 → walk_field (item (vec 0 1024)) (numbers_bytes xs ++ r) ≡ got (map pattern_of xs) r
unfolding walk_field
vec_field xs r h = vec_walk 0 1024 xs r (omega arith) h (omega arith)

lit_walk : (f : Field) (a na : List ℕ) (color : Color) (l : LightSource) → ((r : List ℕ) → walk_field f (a ++ r) ≡ got na r) → walk_fields (f ∷ item (any_bytes 3) ∷ light_source ∷ []) (a ++ (color_bytes color ++ light_source_bytes l)) ≡ got (na ++ map pattern_of (light_numbers l)) []
lit_walk f a na color l h =
    cons_walk f (item (any_bytes 3) ∷ light_source ∷ []) a (color_bytes color ++ light_source_bytes l) na (map pattern_of (light_numbers l)) (h (color_bytes color ++ light_source_bytes l))
    (cons_walk (item (any_bytes 3)) (light_source ∷ []) (color_bytes color) (light_source_bytes l) [] (map pattern_of (light_numbers l)) (color3 color (light_source_bytes l))
    (alone light_source (light_source_bytes l) (map pattern_of (light_numbers l)) (light_walk l)))

diffuse_walk : (v : DiffuseFields) → walk_fields (item (f32s 2) ∷ item (any_bytes 3) ∷ light_source ∷ []) (diffuse_lighting_bytes v) ≡ got (map pattern_of (diffuse_numbers v)) []
unfolding diffuse_lighting_bytes
diffuse_walk v =
    ap (walk_fields (item (f32s 2) ∷ item (any_bytes 3) ∷ light_source ∷ [])) (append_assoc (bytes_f v.surface_scale ++ bytes_f v.diffuse_constant) (color_bytes v.lighting_color) (light_source_bytes v.light_source))
    ∙ lit_walk (item (f32s 2)) (bytes_f v.surface_scale ++ bytes_f v.diffuse_constant) (pattern_of v.surface_scale ∷ pattern_of v.diffuse_constant ∷ []) v.lighting_color v.light_source
    (floats2 v.surface_scale v.diffuse_constant)

specular_walk : (v : SpecularFields) → walk_fields (item (f32s 3) ∷ item (any_bytes 3) ∷ light_source ∷ []) (specular_lighting_bytes v) ≡ got (map pattern_of (specular_numbers v)) []
unfolding specular_lighting_bytes
specular_walk v =
    ap (walk_fields (item (f32s 3) ∷ item (any_bytes 3) ∷ light_source ∷ [])) (append_assoc (bytes_f v.surface_scale ++ bytes_f v.specular_constant ++ bytes_f v.specular_exponent) (color_bytes v.lighting_color) (light_source_bytes v.light_source))
    ∙ lit_walk (item (f32s 3)) (bytes_f v.surface_scale ++ bytes_f v.specular_constant ++ bytes_f v.specular_exponent)
    (pattern_of v.surface_scale ∷ pattern_of v.specular_constant ∷ pattern_of v.specular_exponent ∷ []) v.lighting_color v.light_source
    (floats3 v.surface_scale v.specular_constant v.specular_exponent)

kernel_end : (x y : Float) (m : EdgeMode) (p : Bool) → walk_fields (item (f32s 2) ∷ item (byte_below 3) ∷ item (byte_below 2) ∷ []) (bytes_f x ++ (bytes_f y ++ (edge_mode_place m ∷ bool_byte p ∷ []))) ≡ got (pattern_of x ∷ pattern_of y ∷ []) []
unfolding walk_fields walk_field walk_item read_below read_many read32 bytes32
kernel_end x y m p = rw (edge_small m, bool_small p)

convolve_walk : (v : ConvolveMatrixFields) → length v.matrix.numbers ≤ 1024 → walk_fields (item (any_bytes 16) ∷ item (vec 0 1024) ∷ item (f32s 2) ∷ item (byte_below 3) ∷ item (byte_below 2) ∷ []) (convolve_matrix_bytes v) ≡ got (map pattern_of (v.matrix.numbers ++ (v.divisor ∷ v.bias ∷ []))) []
unfolding convolve_matrix_bytes convolve_matrix_data_bytes
convolve_walk v h =
    let m = v.matrix in
    let t = bytes32 m.target_x ++ bytes32 m.target_y ++ bytes32 m.columns ++ bytes32 m.rows in
    let end = bytes_f v.divisor ++ (bytes_f v.bias ++ (edge_mode_place v.edge_mode ∷ bool_byte v.preserve_alpha ∷ [])) in
    let e : (t ++ numbers_bytes m.numbers) ++ bytes_f v.divisor ++ bytes_f v.bias ++ (edge_mode_place v.edge_mode ∷ []) ++ (bool_byte v.preserve_alpha ∷ []) ≡ t ++ (numbers_bytes m.numbers ++ end) = simp append_assoc in
    ap (walk_fields (item (any_bytes 16) ∷ item (vec 0 1024) ∷ item (f32s 2) ∷ item (byte_below 3) ∷ item (byte_below 2) ∷ [])) e
    ∙ cons_walk (item (any_bytes 16)) (item (vec 0 1024) ∷ item (f32s 2) ∷ item (byte_below 3) ∷ item (byte_below 2) ∷ []) t (numbers_bytes m.numbers ++ end) [] (map pattern_of m.numbers ++ (pattern_of v.divisor ∷ pattern_of v.bias ∷ []))
    (free16 m.target_x m.target_y m.columns m.rows (numbers_bytes m.numbers ++ end))
    (cons_walk (item (vec 0 1024)) (item (f32s 2) ∷ item (byte_below 3) ∷ item (byte_below 2) ∷ []) (numbers_bytes m.numbers) end (map pattern_of m.numbers) (pattern_of v.divisor ∷ pattern_of v.bias ∷ [])
    (vec_field m.numbers end h) (kernel_end v.divisor v.bias v.edge_mode v.preserve_alpha))
    ∙ ap (λ (l : List ℕ). got l []) (sym (map-append pattern_of m.numbers (v.divisor ∷ v.bias ∷ [])))

component_walk : (v : ComponentTransferFields) → TransferWithin v.func_r × TransferWithin v.func_g × TransferWithin v.func_b × TransferWithin v.func_a → walk_fields (transfer_function ∷ transfer_function ∷ transfer_function ∷ transfer_function ∷ []) (component_transfer_bytes v) ≡ got (map pattern_of (component_transfer_numbers v)) []
unfolding component_transfer_bytes
component_walk v h =
    four transfer_function (transfer_function_bytes v.func_r) (transfer_function_bytes v.func_g) (transfer_function_bytes v.func_b) (transfer_function_bytes v.func_a)
    (map pattern_of (transfer_function_numbers v.func_r)) (map pattern_of (transfer_function_numbers v.func_g)) (map pattern_of (transfer_function_numbers v.func_b)) (map pattern_of (transfer_function_numbers v.func_a))
    (λ r. transfer_walk v.func_r r h.0) (λ r. transfer_walk v.func_g r h.1) (λ r. transfer_walk v.func_b r h.2) (λ r. transfer_walk v.func_a r h.3)
    ∙ ap (λ (l : List ℕ). got l []) (sym (simp map-append))

pub kind_walk : {A : Type 0} (k : Kind A) → KindWithin k → walk_kind (layout_of (kind_place k)) (field_bytes k) ≡ got (map pattern_of (numbers_of_kind k)) []
unfolding layout_of walk_fields walk_field walk_item read_below read_many read32 bytes32 displacement_map_bytes drop_shadow_bytes flood_bytes gaussian_blur_bytes morphology_bytes offset_bytes turbulence_bytes i32_bytes color_bytes
kind_walk (Blend a b v) h = rw (blend_small v)
kind_walk (ColorMatrix a v) h = alone color_matrix_kind (color_matrix_kind_bytes v) (map pattern_of (color_matrix_numbers v)) (λ r. matrix_walk v r h)
kind_walk (ComponentTransfer a v) h = component_walk v h
kind_walk (Composite a b v) h = alone composite_operator (composite_operator_bytes v) (map pattern_of (operator_numbers v)) (λ r. composite_walk v r)
kind_walk (ConvolveMatrix a v) h = convolve_walk v h
kind_walk (DiffuseLighting a v) h = diffuse_walk v
kind_walk (DisplacementMap a b v) h = rw (channel_small v.x_channel_selector, channel_small v.y_channel_selector)
kind_walk (DropShadow a v) h = refl
kind_walk (Flood v) h = refl
kind_walk (GaussianBlur a v) h = refl
kind_walk (Image never) h = absurd never
kind_walk (Merge inputs) h = refl
kind_walk (Morphology a v) h = rw (operator_small v.operator)
kind_walk (Offset a v) h = refl
kind_walk (SpecularLighting a v) h = specular_walk v
kind_walk (Tile a) h = refl
kind_walk (Turbulence v) h = rw (bool_small v.stitch_tiles, noise_small v.kind)
