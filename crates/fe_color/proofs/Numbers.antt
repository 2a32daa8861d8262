-- What holds of 0, of 1 and of the numbers of a node's values holds of every number of these kinds: so each is finite. A matrix has twenty numbers, and
-- a saturation lies between 0 and 1. Assumes nothing.
use Rattle.std.specs.Prelude.{None, Option, Some}
use Prim.Native.Nat.{ℕ}
use mathlib.Core.Path.{◌≡◌, refl}
use mathlib.Core.Bool.{Bool, true, false, cond}
use mathlib.Core.List.{List, [], ◌∷◌, ◌++◌}
use lib.Dec.{T, eqb}
use borrow.Author.Tests.{eqb-true}
use lib.ListN.{length}
use lib.Ieee.{Float, of_bits, lt, eq, le}
use Rattle.names.specs.Ids.{aid_type, aid_values, aid_table_values, aid_slope, aid_intercept, aid_amplitude, aid_exponent, aid_offset, aid_operator, aid_k1, aid_k2, aid_k3, aid_k4, eid_fe_func_r, eid_fe_func_g, eid_fe_func_b, eid_fe_func_a}
use Rattle.num.specs.Constants.{plus_zero, one}
use Rattle.num.specs.Numbers.{IsFinite, Each}
use Rattle.num.specs.Sign.{f32_bound}
use Rattle.num.proofs.Finite.{zero_finite}
use Rattle.num.proofs.Each.{◌and◌, choose, each_append, each_all}
use Rattle.svgtree.specs.Values.{Node}
use Rattle.svgtree.specs.Readers.{numbers_of, text_of}
use Rattle.tree.specs.Kinds.{ColorMatrixKind, Matrix, TransferFunction, Identity, identity_matrix}
use Rattle.tree.specs.declared.CompositeOperator.{CompositeOperator}
use Rattle.tree.specs.declared.CompositeOperator.TheVariants.{Over}
use Rattle.fe.specs.Attributes.{number_or}
use Rattle.fe.proofs.Keywords.{keyword_holds}
use Rattle.fe.proofs.Numbers.{NodeHolds, ListHolds, number_or_lem, numbers_of_lem, node_finite, numbers_finite, one_finite}
use Rattle.fe_color.specs.ColorMatrix.{first_or, saturate_of, hue_rotate_of, matrix_of, color_matrix_kind_of}
use Rattle.fe_color.specs.ComponentTransfer.{or_empty, transfer_function_of, wanted, functions_of, last_or, component_transfer_of}
use Rattle.fe_color.specs.Composite.{composite_operator_of}
use Rattle.fe_color.specs.Ranges.{color_matrix_numbers, transfer_function_numbers, component_transfer_numbers, operator_numbers, ColorMatrixRange}
use Rattle.fe_color.proofs.Bounds.{bound_range}

-- ---- feComponentTransfer: what holds of every readable function of some children and of the default holds of the last

abbrev pub OptionHolds : (TransferFunction → Type 0) → Option TransferFunction → Type 0
OptionHolds Q None = Unit {0}
OptionHolds Q (Some f) = Q f

module _ (R : Node → Type 0) (Q : TransferFunction → Type 0) (readable : (n : Node) → R n → OptionHolds Q (transfer_function_of n)) where
  last_wanted : (b : Bool) (o : Option TransferFunction) (d : TransferFunction) (fs : List TransferFunction)
      → ((f : TransferFunction) → Q f → Q (last_or f fs)) → OptionHolds Q o → Q d → Q (last_or d (wanted b o ++ fs))
  unfolding last_or
  last_wanted true (Some f) d fs r h k = r f h
  last_wanted true None d fs r h k = r d k
  last_wanted false o d fs r h k = r d k

  pub last_holds : (tag : ℕ) (children : List Node) → Each R children → (d : TransferFunction) → Q d → Q (last_or d (functions_of tag children))
  unfolding functions_of last_or
  last_holds tag [] c d h = h
  last_holds tag (n ∷ ns) c d h =
      last_wanted (eqb n.tag tag) (transfer_function_of n) d (functions_of tag ns) (last_holds tag ns c.1) (readable n c.0) h

-- ---- the numbers of the kinds

pub first_holds : (P : Float → Type 0) (d : Float) (xs : List Float) → P d → Each P xs → P (first_or d xs)
first_holds P d [] k h = k
first_holds P d (x ∷ xs) k h = h.0

module _ (P : Float → Type 0) (zero-holds : P plus_zero) (one-Holds : P one) where
  identity_holds : Each P identity_matrix
  unfolding identity_matrix
  identity_holds =
      let z = zero-holds in
      let o = one-Holds in
      o and z and z and z and z
      and z and o and z and z and z
      and z and z and o and z and z
      and z and z and z and o and z
      and tt

  bound_holds : (v : Float) → P v → P (f32_bound plus_zero v one)
  bound_holds v h = choose P (lt one v) one (cond (le plus_zero v) v plus_zero) one-Holds (choose P (le plus_zero v) v plus_zero h zero-holds)

  saturate_holds : (values : Option (List Float)) → ListHolds P values → Each P (color_matrix_numbers (saturate_of values))
  saturate_holds None h = identity_holds
  saturate_holds (Some xs) h = (bound_holds (first_or one xs) (first_holds P one xs one-Holds h), tt)

  hue_holds : (values : Option (List Float)) → ListHolds P values → Each P (color_matrix_numbers (hue_rotate_of values))
  hue_holds None h = identity_holds
  hue_holds (Some xs) h = (first_holds P plus_zero xs zero-holds h, tt)

  matrix_holds : (values : Option (List Float)) → ListHolds P values → Each P (color_matrix_numbers (matrix_of values))
  matrix_holds None h = identity_holds
  matrix_holds (Some xs) h =
      choose (λ (k : ColorMatrixKind). Each P (color_matrix_numbers k)) (eqb (length xs) 20) (Matrix xs) (Matrix identity_matrix) h identity_holds

  pub color_matrix_holds : (n : Node) → NodeHolds P n → Each P (color_matrix_numbers (color_matrix_kind_of n))
  color_matrix_holds n h =
      let values = numbers_of n aid_values in
      let k = numbers_of_lem P n h aid_values in
      keyword_holds (λ (v : ColorMatrixKind). Each P (color_matrix_numbers v)) _ (matrix_of values) (text_of n aid_type)
      (saturate_holds values k and hue_holds values k and tt and tt)
      (matrix_holds values k)

  table_holds : (values : Option (List Float)) → ListHolds P values → Each P (or_empty values)
  table_holds None h = tt
  table_holds (Some xs) h = h

  module _ (n : Node) (h : NodeHolds P n) where
    zero_or : (id : ℕ) → P (number_or n id plus_zero)
    zero_or id = number_or_lem P n h id plus_zero zero-holds

    one_or : (id : ℕ) → P (number_or n id one)
    one_or id = number_or_lem P n h id one one-Holds

    pub function_holds : OptionHolds (λ (f : TransferFunction). Each P (transfer_function_numbers f)) (transfer_function_of n)
    unfolding transfer_function_of
    function_holds =
        let table = table_holds (numbers_of n aid_table_values) (numbers_of_lem P n h aid_table_values) in
        keyword_holds (OptionHolds (λ (f : TransferFunction). Each P (transfer_function_numbers f))) _ None (text_of n aid_type)
        (tt
        and table
        and table
        and (one_or aid_slope and zero_or aid_intercept and tt)
        and (one_or aid_amplitude and one_or aid_exponent and zero_or aid_offset and tt)
        and tt)
        tt

    pub operator_holds : Each P (operator_numbers (composite_operator_of n))
    operator_holds =
        keyword_holds (λ (o : CompositeOperator). Each P (operator_numbers o)) _ Over (text_of n aid_operator)
        ((zero_or aid_k1 and zero_or aid_k2 and zero_or aid_k3 and zero_or aid_k4 and tt) and tt and tt and tt and tt and tt and tt)
        tt

  pub component_transfer_holds : (children : List Node) → Each (NodeHolds P) children → Each P (component_transfer_numbers (component_transfer_of children))
  component_transfer_holds children c =
      let Q : TransferFunction → Type 0 = λ f. Each P (transfer_function_numbers f) in
      let f : ℕ → List Float = λ tag. transfer_function_numbers (last_or Identity (functions_of tag children)) in
      let h : (tag : ℕ) → Each P (f tag) = λ tag. last_holds (NodeHolds P) Q function_holds tag children c Identity tt in
      let r = eid_fe_func_r in
      let g = eid_fe_func_g in
      let b = eid_fe_func_b in
      let a = eid_fe_func_a in
      each_append P (f r ++ f g ++ f b) (f a) (each_append P (f r ++ f g) (f b) (each_append P (f r) (f g) (h r) (h g)) (h b)) (h a)

-- ---- what is read is finite

pub color_matrix_finite : (n : Node) → Each IsFinite (color_matrix_numbers (color_matrix_kind_of n))
color_matrix_finite n = color_matrix_holds IsFinite zero_finite one_finite n (node_finite n)

pub component_transfer_finite : (children : List Node) → Each IsFinite (component_transfer_numbers (component_transfer_of children))
component_transfer_finite children = component_transfer_holds IsFinite zero_finite one_finite children (each_all (NodeHolds IsFinite) node_finite children)

pub operator_finite : (n : Node) → Each IsFinite (operator_numbers (composite_operator_of n))
operator_finite n = operator_holds IsFinite zero_finite one_finite n (node_finite n)

-- ---- the range of feColorMatrix

identity_length : length identity_matrix ≡ 20
unfolding identity_matrix
identity_length = refl

zero_zero : T (le plus_zero plus_zero)
unfolding of_bits lt eq le
zero_zero = tt

zero_one : T (le plus_zero one)
unfolding of_bits lt eq le
zero_one = tt

one_one : T (le one one)
unfolding of_bits lt eq le
one_one = tt

saturate_range : (values : Option (List Float)) → ListHolds IsFinite values → ColorMatrixRange (saturate_of values)
saturate_range None h = identity_length
saturate_range (Some xs) h =
    bound_range plus_zero (first_or one xs) one (first_holds IsFinite one xs one_finite h) one_finite zero_one zero_zero one_one

hue_range : (values : Option (List Float)) → ColorMatrixRange (hue_rotate_of values)
hue_range None = identity_length
hue_range (Some xs) = tt

matrix_range : (values : Option (List Float)) → ColorMatrixRange (matrix_of values)
matrix_range None = identity_length
matrix_range (Some xs) = go (eqb (length xs) 20) refl
  where
    go : (b : Bool) → eqb (length xs) 20 ≡ b → ColorMatrixRange (cond b (Matrix xs) (Matrix identity_matrix))
    go true e = eqb-true (length xs) 20 e
    go false e = identity_length

pub color_matrix_range : (n : Node) → ColorMatrixRange (color_matrix_kind_of n)
color_matrix_range n =
    let values = numbers_of n aid_values in
    keyword_holds ColorMatrixRange _ (matrix_of values) (text_of n aid_type)
    (saturate_range values (numbers_finite n aid_values) and hue_range values and tt and tt)
    (matrix_range values)
