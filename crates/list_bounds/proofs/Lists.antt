-- A list in the layout has at most 2 bytes, and 816 for each primitive with its pair, besides those that vary without a bound of their own: the inputs of a
-- merge, the numbers of a kernel and of tables. Assumes nothing.
use Rattle.std.specs.Prelude.{Float, None, Option, Some}
use Prim.Native.Nat.{ℕ, ◌+◌, ◌*◌, ◌≤◌}
use native.Mathlib.Omega.{arith}
use mathlib.Core.Path.{◌≡◌, refl, ap}
use mathlib.Core.Bool.{true}
use mathlib.Core.List.{List, [], ◌∷◌, map}
use lib.ListN.{length, length-append, length-map}
use Rattle.bits.specs.Bytes.{bytes16}
use Rattle.tree.specs.Input.{Input, input_bytes}
use Rattle.tree.specs.Fields.{field_bytes}
use Rattle.tree.specs.Sizes.{field_size, color_matrix_kind_size, transfer_function_size, composite_operator_size, light_source_size, option_size, total}
use Rattle.tree.specs.Kinds.{ColorMatrixKind, Matrix, Saturate, HueRotate, LuminanceToAlpha, TransferFunction, Identity, Table, Discrete, Linear, Gamma, ComponentTransferFields}
use Rattle.tree.specs.Kinds.{Kind, Blend, ColorMatrix, ComponentTransfer, Composite, ConvolveMatrix, DiffuseLighting, DisplacementMap, DropShadow, Flood, GaussianBlur, Image, Merge, Morphology, Offset, SpecularLighting, Tile, Turbulence, Primitive, map_kind, Inputs, Nothing, One, Two, Vec, inputs_in, input_list, inputs_of}
use Rattle.tree.specs.List.{inputs_bytes, kind_bytes, primitive_bytes, primitive_size, list_bytes}
use Rattle.tree.specs.declared.CompositeOperator.{CompositeOperator}
use Rattle.tree.specs.declared.CompositeOperator.TheVariants as composite
use Rattle.tree.specs.declared.LightSource.{LightSource}
use Rattle.tree.specs.declared.LightSource.TheVariants as light
use Rattle.tree.proofs.Lengths.{length_rect, length_fields, length_list}
use Rattle.child.specs.Child.{Child}
use Rattle.naming.specs.Names.{Results, names_so_far, after}
use Rattle.naming.specs.Inputs.{resolve}
use Rattle.list_primitives.specs.Primitives.{primitive_of, primitives_from}
use Rattle.list_read.specs.Records.{form1}
use Rattle.list_read.specs.Write.{input_fits, inputs_fit}
use Rattle.std.proofs.lemmas.Bool.{and_parts}
use Rattle.list_read.proofs.Forms.{lawful1, text_size}
use Rattle.list_read.proofs.Sizes.{input_size, inputs_size}
use Rattle.list_read_back.specs.Within.{ColorMatrixWithin, KindWithin, Within, AllWithin}

-- ---- the bytes of a kind that have no bound of their own

abbrev pub table_bytes : TransferFunction → ℕ
table_bytes Identity = 0
table_bytes (Table xs) = 4 * length xs
table_bytes (Discrete xs) = 4 * length xs
table_bytes (Linear slope intercept) = 0
table_bytes (Gamma amplitude exponent offset) = 0

abbrev pub tables_bytes : ComponentTransferFields → ℕ
tables_bytes v = table_bytes v.func_r + table_bytes v.func_g + table_bytes v.func_b + table_bytes v.func_a

abbrev pub varying : {A : Type 0} → Kind A → ℕ
varying (Blend a b v) = 0
varying (ColorMatrix a v) = 0
varying (ComponentTransfer a v) = tables_bytes v
varying (Composite a b v) = 0
varying (ConvolveMatrix a v) = 4 * length v.matrix.numbers
varying (DiffuseLighting a v) = 0
varying (DisplacementMap a b v) = 0
varying (DropShadow a v) = 0
varying (Flood v) = 0
varying (GaussianBlur a v) = 0
varying (Image never) = 0
varying (Merge inputs) = 258 * length inputs
varying (Morphology a v) = 0
varying (Offset a v) = 0
varying (SpecularLighting a v) = 0
varying (Tile a) = 0
varying (Turbulence v) = 0

-- who the inputs are has no say
varying_map : {A B : Type 0} (g : A → B) (k : Kind A) → varying (map_kind g k) ≡ varying k
unfolding map_kind
varying_map g (Blend a b v) = refl
varying_map g (ColorMatrix a v) = refl
varying_map g (ComponentTransfer a v) = refl
varying_map g (Composite a b v) = refl
varying_map g (ConvolveMatrix a v) = refl
varying_map g (DiffuseLighting a v) = refl
varying_map g (DisplacementMap a b v) = refl
varying_map g (DropShadow a v) = refl
varying_map g (Flood v) = refl
varying_map g (GaussianBlur a v) = refl
varying_map g (Image never) = refl
varying_map g (Merge inputs) = ap (λ (n : ℕ). 258 * n) (length-map inputs g)
varying_map g (Morphology a v) = refl
varying_map g (Offset a v) = refl
varying_map g (SpecularLighting a v) = refl
varying_map g (Tile a) = refl
varying_map g (Turbulence v) = refl

-- ---- the inputs: at most 258 bytes each

abbrev inputs_most : {A : Type 0} → Inputs A → ℕ
inputs_most Nothing = 0
inputs_most (One a) = 258
inputs_most (Two a b) = 516
inputs_most (Vec inputs) = 2 + 258 * length inputs

input_long : (i : Input) → input_fits form1 i ≡ true → length (input_bytes i) ≤ 258
unfolding input_bytes
input_long i h = input_size form1 lawful1 i h

inputs_long : (i : Inputs Input) → inputs_fit form1 (input_list i) ≡ true → length (inputs_bytes input_bytes i) ≤ inputs_most i
unfolding inputs_fit input_bytes bytes16
inputs_long Nothing h = omega arith
inputs_long (One a) h = input_long a (and_parts (input_fits form1 a) true h).0
inputs_long (Two a b) h =
    let k = (and_parts (input_fits form1 a) _ h).1 in
    omega (arith, length-append (input_bytes a) (input_bytes b), input_long a (and_parts (input_fits form1 a) _ h).0, input_long b (and_parts (input_fits form1 b) true k).0)
inputs_long (Vec inputs) h = omega (arith, inputs_size form1 lawful1 inputs h)

-- ---- the fields

matrix_size : (v : ColorMatrixKind) → ColorMatrixWithin v → color_matrix_kind_size v ≤ 83
matrix_size (Matrix xs) h = omega arith
matrix_size (Saturate x) h = omega arith
matrix_size (HueRotate x) h = omega arith
matrix_size LuminanceToAlpha h = omega arith

function_size : (v : TransferFunction) → transfer_function_size v ≤ 13 + table_bytes v
function_size Identity = omega arith
function_size (Table xs) = omega arith
function_size (Discrete xs) = omega arith
function_size (Linear slope intercept) = omega arith
function_size (Gamma amplitude exponent offset) = omega arith

operator_size : (v : CompositeOperator) → composite_operator_size v ≤ 17
operator_size composite.Over = omega arith
operator_size composite.In = omega arith
operator_size composite.Out = omega arith
operator_size composite.Atop = omega arith
operator_size composite.Xor = omega arith
operator_size composite.Lighter = omega arith
operator_size (composite.Arithmetic k1 k2 k3 k4) = omega arith

option_size_lem : (v : Option Float) → option_size v ≤ 5
option_size_lem None = omega arith
option_size_lem (Some x) = omega arith

light_size : (v : LightSource) → light_source_size v ≤ 34
light_size (light.DistantLight l) = omega arith
light_size (light.PointLight l) = omega arith
light_size (light.SpotLight l) = omega (arith, option_size_lem l.limiting_cone_angle)

-- ---- a kind, and a record

sizes : {A : Type 0} (k : Kind A) → KindWithin k → inputs_most (inputs_in k) + field_size k ≤ 533 + varying k
sizes (Blend a b v) h = omega arith
sizes (ColorMatrix a v) h = omega (arith, matrix_size v h)
sizes (ComponentTransfer a v) h = omega (arith, function_size v.func_r, function_size v.func_g, function_size v.func_b, function_size v.func_a)
sizes (Composite a b v) h = omega (arith, operator_size v)
sizes (ConvolveMatrix a v) h = omega arith
sizes (DiffuseLighting a v) h = omega (arith, light_size v.light_source)
sizes (DisplacementMap a b v) h = omega arith
sizes (DropShadow a v) h = omega arith
sizes (Flood v) h = omega arith
sizes (GaussianBlur a v) h = omega arith
sizes (Image never) h = omega arith
sizes (Merge inputs) h = omega arith
sizes (Morphology a v) h = omega arith
sizes (Offset a v) h = omega arith
sizes (SpecularLighting a v) h = omega (arith, light_size v.light_source)
sizes (Tile a) h = omega arith
sizes (Turbulence v) h = omega arith

kind_long : (k : Kind Input) → inputs_fit form1 (inputs_of k) ≡ true → KindWithin k → length (kind_bytes k) ≤ 534 + varying k
unfolding kind_bytes inputs_of
kind_long k i h =
    omega (
      arith,
      length-append (inputs_bytes input_bytes (inputs_in k)) (field_bytes k),
      inputs_long (inputs_in k) i,
      length_fields k,
      sizes k h,
    )

record_long : (p : Primitive) → Within p → primitive_size p ≤ 808 + varying p.kind
unfolding primitive_bytes
record_long p w =
    simp length-append
    (omega (arith, length_rect p.rect, text_size p.result w.name, kind_long p.kind w.inputs w.counts))

-- ---- the list

abbrev pub children_long : List Child → ℕ
children_long [] = 0
children_long (c ∷ cs) = 816 + varying c.kind + children_long cs

records_long : (st : Results) (cs : List Child) → AllWithin (primitives_from st cs) → 8 * length (primitives_from st cs) + total (map primitive_size (primitives_from st cs)) ≤ children_long cs
unfolding primitives_from total AllWithin
records_long st [] w = omega arith
records_long st (c ∷ cs) w =
    omega (
      arith,
      record_long (primitive_of st c) w.0,
      varying_map (resolve (names_so_far st)) c.kind,
      records_long (after st c.own) cs w.1,
    )

pub list_long : (st : Results) (cs : List Child) → AllWithin (primitives_from st cs) → length (list_bytes (primitives_from st cs)) ≤ 2 + children_long cs
list_long st cs w = omega (arith, length_list (primitives_from st cs), records_long st cs w)
