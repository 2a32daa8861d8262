-- Every kind that is made of an accepted node is within the layout of lists: f32 holds its numbers, its counts are small, its texts fit.
-- Assumes nothing.
use Rattle.answer.specs.declared.Refusal.{Refusal}
use Rattle.tree.specs.declared.DisplacementMap.{DisplacementMap}
use Rattle.tree.specs.declared.SpecularLighting.{SpecularLighting}
use Rattle.geom.specs.declared.Rect.{Rect}
use Rattle.std.specs.Prelude.{Err, None, Ok, Option, Result, Some, ℕ}
use Prim.Native.Nat.{ℕ, ◌≤◌}
use native.Mathlib.Omega.{arith}
use mathlib.Core.Path.{refl, sym, subst}
use mathlib.Core.Bool.{◌&&◌}
use mathlib.Core.List.{List, [], ◌∷◌, ◌++◌, map}
use lib.Dec.{T, eqb}
use lib.ListN.{length, length-map}
use lib.Ieee.{Float, binary32, fits, mul}
use lib.Ieee.Scale.{finite}
use lib.Ieee.Fits.{and_l, and_r, sub-fits, mul-fits, div-fits}
use lib.Ieee.Bits.{of_bits-fits}
use borrow.Author.Tests.{le-leb}
use Rattle.answer.specs.declared.Refusal.TheVariants.{Unrepresentable}
use Rattle.names.specs.Ids as ids
use Rattle.num.specs.Constants.{plus_zero, one, two}
use Rattle.num.specs.Narrowed.{or_zero}
use Rattle.num.specs.Sign.{near_zero, positive}
use Rattle.num.proofs.Finite.{or_zero_fits}
use Rattle.geom.specs.declared.Size.{Size}
use Rattle.svgtree.specs.Values.{Value, absent, text_value, number_value, numbers_value, length_value, color_value, tries_value, Node}
use Rattle.svgtree.specs.Readers.{text_in, numbers_in, value_under, text_of, number_of, numbers_of, tries_of}
use Rattle.field_tests.specs.Tests.{all}
use Rattle.sheet_accepted.specs.Nodes.{AcceptedValue, AcceptedNode, EachAccepted}
use Rattle.tree.specs.Kinds.{ColorMatrixKind, Matrix, Saturate, HueRotate, LuminanceToAlpha, Identity, Kind, ComponentTransfer, DropShadow, Flood, GaussianBlur, Merge, Offset, ConvolveMatrixData, ConvolveMatrixFields, inputs_of}
use Rattle.tree.specs.declared.LightSource.{LightSource}
use Rattle.tree.specs.declared.MorphologyOperator.{MorphologyOperator}
use Rattle.region.specs.declared.Frame.{Frame}
use Rattle.svgtree.specs.declared.Units.{Units}
use Rattle.svgtree.specs.declared.Units.TheVariants as units
use Rattle.subregion.specs.Subregions.{scale_in, scale_of}
use Rattle.fe.specs.Attributes.{number_or}
use Rattle.child.specs.Child.{in_of}
use Rattle.fe_color.specs.ColorMatrix.{color_matrix_kind_of}
use Rattle.fe_color.specs.ComponentTransfer.{or_empty, transfer_function_of, functions_of, last_or, component_transfer_of}
use Rattle.num.specs.Numbers.{Each}
use Rattle.num.proofs.Each.{choose, ◌and◌, each_append}
use Rattle.fe_color.specs.Ranges.{ColorMatrixRange}
use Rattle.fe_color.proofs.Numbers.{OptionHolds, last_holds, color_matrix_holds, component_transfer_holds, operator_holds, color_matrix_range}
use Rattle.fe_blur.specs.GaussianBlur.{deviation, numbers_or_default, gaussian_blur_of}
use Rattle.fe_flood.specs.Flood.{alpha_opacity, flood_color, flood_of, transparent_black}
use Rattle.fe_blur.specs.Offset.{offset_fields_of}
use Rattle.fe_blur.specs.DropShadow.{drop_shadow_of}
use Rattle.fe_light.specs.LightSource.{light_source_of}
use Rattle.fe_light.specs.DiffuseLighting.{diffuse_with}
use Rattle.fe_light.specs.SpecularLighting.{exponent_in_range, specular_with}
use Rattle.fe_light.specs.Ranges.{light_numbers}
use Rattle.fe_kernel.specs.declared.order.Order.{Order}
use Rattle.fe_kernel.specs.Order.{order_of}
use Rattle.fe_kernel.specs.Target.{target_of}
use Rattle.fe_kernel.specs.Divisor.{million, kernel_sum, default_divisor, divisor_of}
use Rattle.fe_kernel.specs.ConvolveMatrix.{matrix_with, convolve_with, convolve_of, convolve_matrix_of, kernel_matrix_of}
use Rattle.fe.specs.declared.pair.Pair.{Pair}
use Rattle.fe.specs.Pairs.{pair_of, pair_in, signs_clear, if_positive}
use Rattle.fe_morphology.specs.Morphology.{ones_for_zeros, unit_radius, scaled_radius, radius_of, morphology_with, morphology_operator_of}
use Rattle.fe_displacement_map.specs.DisplacementMap.{box_sum, displacement_with, displacement_map_of}
use Rattle.fe_turbulence.specs.Turbulence.{frequency_of, turbulence_with}
use Rattle.fe.proofs.Keywords.{keyword_holds}
use Rattle.fe.proofs.Numbers.{ValueHolds, NodeHolds, number_or_lem}
use Rattle.fe.proofs.Pairs.{PairHolds, pair_holds}
use Rattle.fe_light.proofs.Numbers.{LightHolds, first_holds, light_holds}
use Rattle.elements.specs.Elements.{ElementKind, made, elements, kind_of, in2_of, convolve_made, diffuse_made, specular_made, morphology_made, displacement_made, turbulence_made}
use Rattle.ranges.specs.Numbers.{numbers_of_kind}
use Rattle.ranges.proofs.Children.{MadeAll, AnyRefusal, All, by_tag_lem}
use Rattle.tree.specs.Input.{Name}
use Rattle.list_read_back.specs.Within.{Fits, KindWithin, TransferWithin, ColorMatrixWithin}
use Rattle.list_within.specs.Fitting.{NumbersFit, OptionFit, OptionsFit}

-- ---- what is read of a node

each_read : (xs : List Float) → T (all (fits binary32) xs) → Each Fits (map or_zero xs)
unfolding all
each_read [] h = tt
each_read (x ∷ xs) h = (or_zero_fits x (and_l (fits binary32 x) (all (fits binary32) xs) h), each_read xs (and_r (fits binary32 x) (all (fits binary32) xs) h))

value_fits : (v : Value) → AcceptedValue v → ValueHolds Fits v
value_fits absent h = tt
value_fits (text_value t) h = tt
value_fits (number_value x) h = or_zero_fits x h
value_fits (numbers_value xs) h = each_read xs h.0
value_fits (length_value u x) h = tt
value_fits (color_value c) h = tt
value_fits (tries_value t) h = tt

node_fits : (n : Node) → AcceptedNode n → NodeHolds Fits n
node_fits n h id = value_fits (value_under id n.attributes) (h.value id)

nodes_fit : (ns : List Node) → EachAccepted ns → Each (NodeHolds Fits) ns
nodes_fit [] h = tt
nodes_fit (n ∷ ns) h = (node_fits n h.0, nodes_fit ns h.1)

abbrev ListFit : Option (List Float) → Type 0
ListFit None = Unit {0}
ListFit (Some xs) = NumbersFit xs

numbers_in_lem : (v : Value) → AcceptedValue v → ListFit (numbers_in v)
unfolding numbers_in
numbers_in_lem absent h = tt
numbers_in_lem (text_value t) h = tt
numbers_in_lem (number_value x) h = tt
numbers_in_lem (numbers_value xs) h = (each_read xs h.0, subst (λ (n : ℕ). n ≤ 1024) (sym (length-map xs or_zero)) h.1)
numbers_in_lem (length_value u x) h = tt
numbers_in_lem (color_value c) h = tt
numbers_in_lem (tries_value t) h = tt

text_in_lem : (v : Value) → AcceptedValue v → OptionFit (text_in v)
unfolding text_in
text_in_lem absent h = tt
text_in_lem (text_value t) h = rw (le-leb (length t) 255 h.0, h.1) refl
text_in_lem (number_value x) h = tt
text_in_lem (numbers_value xs) h = tt
text_in_lem (length_value u x) h = tt
text_in_lem (color_value c) h = tt
text_in_lem (tries_value t) h = tt

pub text_of_lem : (n : Node) → AcceptedNode n → (id : ℕ) → OptionFit (text_of n id)
text_of_lem n h id = text_in_lem (value_under id n.attributes) (h.value id)

numbers_of_lem : (n : Node) → AcceptedNode n → (id : ℕ) → ListFit (numbers_of n id)
numbers_of_lem n h id = numbers_in_lem (value_under id n.attributes) (h.value id)

zero_fits : Fits plus_zero
zero_fits = of_bits-fits binary32 0

one_fits : Fits one
one_fits = of_bits-fits binary32 0x3f80_0000

zero_or : (n : Node) → AcceptedNode n → (id : ℕ) → Fits (number_or n id plus_zero)
zero_or n h id = number_or_lem Fits n (node_fits n h) id plus_zero zero_fits

one_or : (n : Node) → AcceptedNode n → (id : ℕ) → Fits (number_or n id one)
one_or n h id = number_or_lem Fits n (node_fits n h) id one one_fits

-- ---- feColorMatrix

color_within : (v : ColorMatrixKind) → ColorMatrixRange v → ColorMatrixWithin v
color_within (Matrix xs) h = h
color_within (Saturate x) h = tt
color_within (HueRotate x) h = tt
color_within LuminanceToAlpha h = tt

-- ---- feComponentTransfer

table_within : (o : Option (List Float)) → ListFit o → length (or_empty o) ≤ 1024
table_within None h = omega arith
table_within (Some xs) h = h.1

function_within : (n : Node) → AcceptedNode n → OptionHolds TransferWithin (transfer_function_of n)
unfolding transfer_function_of
function_within n h =
    let t = table_within (numbers_of n ids.aid_table_values) (numbers_of_lem n h ids.aid_table_values) in
    keyword_holds (OptionHolds TransferWithin) _ None (text_of n ids.aid_type) (tt and t and t and tt and tt and tt) tt

each_accepted : (ns : List Node) → EachAccepted ns → Each AcceptedNode ns
each_accepted [] h = tt
each_accepted (n ∷ ns) h = (h.0, each_accepted ns h.1)

channel_within : (children : List Node) → EachAccepted children → (tag : ℕ) → TransferWithin (last_or Identity (functions_of tag children))
channel_within children c tag = last_holds AcceptedNode TransferWithin function_within tag children (each_accepted children c) Identity tt

-- ---- a kind whose inputs are texts of the sheet

pub record KindFit (k : Kind (Option Name)) : Type 0 where
  pub numbers : Each Fits (numbers_of_kind k)
  pub counts : KindWithin k
  pub inputs : OptionsFit (inputs_of k)

abbrev pub MadeFit : ElementKind → Type 0
MadeFit m = MadeAll KindFit AnyRefusal m

flood_fit : MadeFit (made (Flood transparent_black))
unfolding inputs_of
flood_fit = record { numbers = (zero_fits, tt); counts = tt; inputs = tt }

-- ---- lights

abbrev LightFit : Option LightSource → Type 0
LightFit m = LightHolds (λ (l : LightSource). Each Fits (light_numbers l)) m

source_fit : (children : List Node) → EachAccepted children → LightFit (light_source_of children)
source_fit children c =
    first_holds (NodeHolds Fits) (λ (l : LightSource). Each Fits (light_numbers l)) (light_holds Fits zero_fits one_fits) children (nodes_fit children c)

-- ---- pairs

abbrev PairFit : Option Pair → Type 0
PairFit m = PairHolds Fits m

if_positive_lem : (p : Pair) → PairFit (Some p) → PairFit (if_positive p)
unfolding if_positive
if_positive_lem p h = choose PairFit (positive p.x && positive p.y) (Some p) None h tt

frequency_fit : (o : Option (List Float)) → ListFit o → PairFit (frequency_of o)
frequency_fit None h = (zero_fits, zero_fits)
frequency_fit (Some xs) h = choose PairFit (signs_clear (pair_in xs)) (if_positive (pair_in xs)) (Some (pair_of plus_zero plus_zero)) (if_positive_lem (pair_in xs) (pair_holds Fits zero_fits xs h.0)) (zero_fits, zero_fits)

-- ---- the scale

abbrev SizeFit : Size → Type 0
SizeFit z = Fits z.width × Fits z.height

scale_in_lem : (u : Units) (b : Option Rect) → SizeFit (scale_in u b)
scale_in_lem units.UserSpaceOnUse b = (one_fits, one_fits)
scale_in_lem units.ObjectBoundingBox (Some r) = (sub-fits binary32 r.right r.left, sub-fits binary32 r.bottom r.top)
scale_in_lem units.ObjectBoundingBox None = (one_fits, one_fits)

scale_fit : (f : Frame) → SizeFit (scale_of f)
unfolding scale_of
scale_fit f = scale_in_lem f.units f.bbox

radius_fit : (z : Size) → SizeFit z → (o : Option (List Float)) → PairFit (radius_of o z)
radius_fit z k None = (k.0, k.1)
radius_fit z k (Some xs) =
    let p = ones_for_zeros (pair_in xs) in
    choose PairFit (signs_clear p) (if_positive (scaled_radius p z)) (Some (unit_radius z))
    (if_positive_lem (scaled_radius p z) (mul-fits binary32 p.x z.width, mul-fits binary32 p.y z.height))
    (k.0, k.1)

deviation_fit : (x scale : Float) → Fits (deviation x scale)
unfolding deviation
deviation_fit x scale = choose Fits (positive (mul binary32 x scale)) (mul binary32 x scale) plus_zero (mul-fits binary32 x scale) zero_fits

divisor_fit : (xs : List Float) → Fits (default_divisor xs)
unfolding default_divisor
divisor_fit xs = choose Fits (near_zero (kernel_sum xs)) one (kernel_sum xs) one_fits (div-fits binary32 _ million)

-- ---- the inputs of a merge

pub inputs_fit_lem : (ns : List Node) → EachAccepted ns → OptionsFit (map in_of ns)
inputs_fit_lem [] h = tt
inputs_fit_lem (n ∷ ns) h = (text_of_lem n h.0 ids.aid_in, inputs_fit_lem ns h.1)

-- ---- the elements, one line a tag

module _ (f : Frame) (n : Node) (children : List Node) (ok : AcceptedNode n) (cs : EachAccepted children) (few : length children ≤ 511) where
  a : OptionFit (in_of n)
  a = text_of_lem n ok ids.aid_in

  b : OptionFit (in2_of n)
  b = text_of_lem n ok ids.aid_in2

  opacity_fit : Fits (flood_of n).opacity
  opacity_fit = mul-fits binary32 (alpha_opacity (flood_color n).alpha) (number_or n ids.aid_flood_opacity one)

  drop_shadow_fit : MadeFit (made (DropShadow (in_of n) (drop_shadow_of n (scale_of f))))
  unfolding inputs_of
  drop_shadow_fit =
      let z = scale_of f in
      let p = numbers_or_default (tries_of n ids.aid_std_deviation) two in
      record {
        numbers = mul-fits binary32 (number_or n ids.aid_dx two) z.width and mul-fits binary32 (number_or n ids.aid_dy two) z.height and deviation_fit p.x z.width and deviation_fit p.y z.height and opacity_fit and tt;
        counts = tt;
        inputs = (a, tt);
      }

  gaussian_blur_fit : MadeFit (made (GaussianBlur (in_of n) (gaussian_blur_of n (scale_of f))))
  unfolding inputs_of
  gaussian_blur_fit =
      let z = scale_of f in
      let p = numbers_or_default (tries_of n ids.aid_std_deviation) plus_zero in
      record { numbers = deviation_fit p.x z.width and deviation_fit p.y z.height and tt; counts = tt; inputs = (a, tt) }

  offset_fit : MadeFit (made (Offset (in_of n) (offset_fields_of n (scale_of f))))
  unfolding inputs_of
  offset_fit =
      let z = scale_of f in
      record { numbers = mul-fits binary32 (number_or n ids.aid_dx plus_zero) z.width and mul-fits binary32 (number_or n ids.aid_dy plus_zero) z.height and tt; counts = tt; inputs = (a, tt) }

  merge_fit : MadeFit (made (Merge (map in_of children)))
  unfolding inputs_of
  merge_fit = record { numbers = tt; counts = subst (λ (k : ℕ). k ≤ 511) (sym (length-map children in_of)) few; inputs = inputs_fit_lem children cs }

  component_transfer_fit : MadeFit (made (ComponentTransfer (in_of n) (component_transfer_of children)))
  unfolding inputs_of
  component_transfer_fit =
      let w : (tag : ℕ) → TransferWithin (last_or Identity (functions_of tag children)) = λ tag. channel_within children cs tag in
      record { numbers = component_transfer_holds Fits zero_fits one_fits children (nodes_fit children cs); counts = (w ids.eid_fe_func_r, w ids.eid_fe_func_g, w ids.eid_fe_func_b, w ids.eid_fe_func_a); inputs = (a, tt) }

  -- the kernel

  abbrev DataFit : Option ConvolveMatrixData → Type 0
  DataFit None = Unit {0}
  DataFit (Some m) = NumbersFit m.numbers

  abbrev FieldsFit : Option ConvolveMatrixFields → Type 0
  FieldsFit None = Unit {0}
  FieldsFit (Some v) = Each Fits (v.matrix.numbers ++ (v.divisor ∷ v.bias ∷ [])) × (length v.matrix.numbers ≤ 1024)

  matrix_with_lem : (o : Order) (x y : Option ℕ) (xs : List Float) → NumbersFit xs → DataFit (matrix_with o x y xs)
  matrix_with_lem o (Some x) (Some y) xs h = choose DataFit (eqb (length xs) _) (Some (record { target_x = x; target_y = y; columns = o.columns; rows = o.rows; numbers = xs })) None h tt
  matrix_with_lem o (Some x) None xs h = tt
  matrix_with_lem o None y xs h = tt

  convolve_with_lem : (d : Float) (m : Option ConvolveMatrixData) → Fits d → DataFit m → FieldsFit (convolve_with n d m)
  convolve_with_lem d None k h = tt
  convolve_with_lem d (Some m) k h = (each_append Fits m.numbers (d ∷ number_or n ids.aid_bias plus_zero ∷ []) h.0 (k, (zero_or n ok ids.aid_bias, tt)), h.1)

  convolve_of_lem : (o : Option (List Float)) → ListFit o → FieldsFit (convolve_of n o)
  convolve_of_lem None h = tt
  convolve_of_lem (Some xs) h =
      choose FieldsFit (near_zero (divisor_of n xs)) None (convolve_with n (divisor_of n xs) (kernel_matrix_of n xs)) tt
      (convolve_with_lem (divisor_of n xs) (kernel_matrix_of n xs) (number_or_lem Fits n (node_fits n ok) ids.aid_divisor (default_divisor xs) (divisor_fit xs))
      (matrix_with_lem (order_of n) (target_of (number_of n ids.aid_target_x) (order_of n).columns) (target_of (number_of n ids.aid_target_y) (order_of n).rows) xs h))

  convolve_made_lem : (o : Option ConvolveMatrixFields) → FieldsFit o → MadeFit (convolve_made n o)
  unfolding inputs_of
  convolve_made_lem None h = flood_fit
  convolve_made_lem (Some v) h = record { numbers = h.0; counts = h.1; inputs = (a, tt) }

  diffuse_made_lem : (m : Option LightSource) → LightFit m → MadeFit (diffuse_made n (diffuse_with n m))
  unfolding inputs_of
  diffuse_made_lem (Some l) h = record { numbers = one_or n ok ids.aid_surface_scale and one_or n ok ids.aid_diffuse_constant and h; counts = tt; inputs = (a, tt) }
  diffuse_made_lem None h = flood_fit

  specular_made_lem : (m : Option LightSource) → LightFit m → MadeFit (specular_made n (specular_with n m))
  unfolding inputs_of
  specular_made_lem (Some l) h =
      choose (λ (m : Option SpecularLighting). MadeFit (specular_made n m)) (exponent_in_range (number_or n ids.aid_specular_exponent one)) _ None
      (record { numbers = one_or n ok ids.aid_surface_scale and one_or n ok ids.aid_specular_constant and one_or n ok ids.aid_specular_exponent and h; counts = tt; inputs = (a, tt) })
      flood_fit
  specular_made_lem None h = flood_fit

  morphology_made_lem : (o : MorphologyOperator) (m : Option Pair) → PairFit m → MadeFit (morphology_made n (morphology_with o m))
  unfolding inputs_of
  morphology_made_lem o (Some p) h = record { numbers = h.0 and h.1 and tt; counts = tt; inputs = (a, tt) }
  morphology_made_lem o None h = tt

  turbulence_made_lem : (m : Option Pair) → PairFit m → MadeFit (turbulence_made (turbulence_with n m))
  unfolding inputs_of
  turbulence_made_lem (Some p) h = record { numbers = h.0 and h.1 and tt; counts = tt; inputs = tt }
  turbulence_made_lem None h = tt

  displacement_made_lem : MadeFit (displacement_made n (displacement_map_of n (scale_of f)))
  unfolding inputs_of
  displacement_made_lem =
      choose (λ (m : Result DisplacementMap Refusal). MadeFit (displacement_made n m)) (finite (box_sum (scale_of f))) (Ok (displacement_with n (box_sum (scale_of f)))) (Err Unrepresentable)
      (record { numbers = mul-fits binary32 (number_or n ids.aid_scale plus_zero) _ and tt; counts = tt; inputs = (a, (b, tt)) })
      tt

  elements_fit : All MadeFit tt (elements f n children)
  unfolding inputs_of
  elements_fit =
      drop_shadow_fit
      and gaussian_blur_fit
      and offset_fit
      and record { numbers = tt; counts = tt; inputs = (a, (b, tt)) }
      and record { numbers = opacity_fit and tt; counts = tt; inputs = tt }
      and record { numbers = operator_holds Fits zero_fits one_fits n (node_fits n ok); counts = tt; inputs = (a, (b, tt)) }
      and merge_fit
      and record { numbers = tt; counts = tt; inputs = (a, tt) }
      and component_transfer_fit
      and record { numbers = color_matrix_holds Fits zero_fits one_fits n (node_fits n ok); counts = color_within (color_matrix_kind_of n) (color_matrix_range n); inputs = (a, tt) }
      and convolve_made_lem (convolve_matrix_of n) (convolve_of_lem (numbers_of n ids.aid_kernel_matrix) (numbers_of_lem n ok ids.aid_kernel_matrix))
      and morphology_made_lem (morphology_operator_of n) (radius_of (numbers_of n ids.aid_radius) (scale_of f)) (radius_fit (scale_of f) (scale_fit f) (numbers_of n ids.aid_radius))
      and displacement_made_lem
      and turbulence_made_lem (frequency_of (numbers_of n ids.aid_base_frequency)) (frequency_fit (numbers_of n ids.aid_base_frequency) (numbers_of_lem n ok ids.aid_base_frequency))
      and diffuse_made_lem (light_source_of children) (source_fit children cs)
      and specular_made_lem (light_source_of children) (source_fit children cs)
      and tt

  pub kind_fit : MadeFit (kind_of f n children)
  unfolding kind_of
  kind_fit = by_tag_lem MadeFit tt (elements f n children) n.tag elements_fit
