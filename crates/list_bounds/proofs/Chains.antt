-- What varies in the list of a chain's children is paid for by the nodes: an input of a merge by the child that it stands in, the numbers of a kernel and of
-- tables by the bytes of their attributes. Assumes nothing.
use Rattle.tree.specs.declared.Turbulence.{Turbulence}
use Rattle.tree.specs.declared.DisplacementMap.{DisplacementMap}
use Rattle.answer.specs.declared.Refusal.{Refusal}
use Rattle.tree.specs.declared.Morphology.{Morphology}
use Rattle.tree.specs.declared.SpecularLighting.{SpecularLighting}
use Rattle.tree.specs.declared.DiffuseLighting.{DiffuseLighting}
use Rattle.std.specs.Prelude.{Err, None, Ok, Option, Result, Some, ℕ}
use Prim.Native.Nat.{ℕ, ◌+◌, ◌*◌, ◌≤◌}
use native.Mathlib.Omega.{arith}
use mathlib.Core.Path.{◌≡◌, refl, subst}
use mathlib.Core.Bool.{Bool, true, false, cond}
use mathlib.Core.List.{List, [], ◌∷◌, ◌++◌, map}
use lib.Dec.{eqb}
use lib.ListN.{length, length-map}
use lib.Ieee.{Float}
use borrow.Author.Tests.{eqb-true}
use Rattle.bits.specs.Words.{word}
use Rattle.names.specs.Ids as ids
use Rattle.num.specs.Narrowed.{or_zero}
use Rattle.num.specs.Sign.{near_zero}
use Rattle.geom.specs.declared.Rect.{Rect}
use Rattle.svgtree.specs.Values.{Value, absent, text_value, number_value, numbers_value, length_value, color_value, tries_value, Attribute, Node}
use Rattle.svgtree.specs.Readers.{numbers_in, value_under, text_of, number_of, numbers_of, child_nodes}
use Rattle.tree.specs.Kinds.{TransferFunction, Identity, ConvolveMatrixData, ConvolveMatrixFields}
use Rattle.region.specs.declared.Frame.{Frame}
use Rattle.subregion.specs.Subregions.{region_of, scale_of}
use Rattle.fe.specs.Attributes.{is_word}
use Rattle.child.specs.Child.{Child, in_of}
use Rattle.fe.specs.Keywords.{keyword}
use Rattle.fe_color.specs.ComponentTransfer.{or_empty, table_values_of, transfer_function_of, wanted, functions_of, last_or, component_transfer_of}
use Rattle.fe_kernel.specs.declared.order.Order.{Order}
use Rattle.fe_kernel.specs.Order.{order_of}
use Rattle.fe_kernel.specs.Target.{target_of}
use Rattle.fe_kernel.specs.Divisor.{divisor_of}
use Rattle.fe_kernel.specs.ConvolveMatrix.{matrix_with, kernel_matrix_of, convolve_with, convolve_of, convolve_matrix_of}
use Rattle.fe_light.specs.DiffuseLighting.{diffuse_lighting_of}
use Rattle.fe_light.specs.SpecularLighting.{specular_lighting_of}
use Rattle.fe_morphology.specs.Morphology.{morphology_of}
use Rattle.fe_displacement_map.specs.DisplacementMap.{displacement_map_of}
use Rattle.fe_turbulence.specs.Turbulence.{turbulence_of}
use Rattle.elements.specs.Elements.{ElementKind, made, no_primitive, elements, kind_of, convolve_made, diffuse_made, specular_made, morphology_made, displacement_made, turbulence_made}
use Rattle.elements.specs.Elements as element
use Rattle.chain.specs.Chain as chain
use Rattle.chain.specs.Chain.{Step, pass, end, count, kind_step, region_step, step_of, Chain, kept, keep_first, follow}
use Rattle.ranges.proofs.Children.{All, by_tag_lem}
use Rattle.num.proofs.Each.{choose, ◌and◌}
use Rattle.list_bounds.proofs.Lists.{table_bytes, tables_bytes, varying, children_long}
use Rattle.list_bounds.proofs.Sheets.{value_numbers, attributes_numbers, node_numbers, nodes_numbers}

-- ---- a list of numbers that is read of a node

abbrev ListLong : ℕ → Option (List Float) → Type 0
ListLong w None = Unit {0}
ListLong w (Some xs) = 4 * length xs ≤ w

lookup_long : (id : ℕ) (as' : List Attribute) → value_numbers (value_under id as') ≤ attributes_numbers as'
unfolding value_under
lookup_long id [] = omega arith
lookup_long id (a ∷ as') = go (eqb a.id id) (lookup_long id as')
  where
    go : (b : Bool) → value_numbers (value_under id as') ≤ attributes_numbers as' → value_numbers (cond b a.value (value_under id as')) ≤ value_numbers a.value + attributes_numbers as'
    go true h = omega arith
    go false h = omega arith

numbers_in_lem : (w : ℕ) (v : Value) → value_numbers v ≤ w → ListLong w (numbers_in v)
unfolding numbers_in
numbers_in_lem w absent h = tt
numbers_in_lem w (text_value t) h = tt
numbers_in_lem w (number_value x) h = tt
numbers_in_lem w (numbers_value xs) h = omega (arith, length-map xs or_zero)
numbers_in_lem w (length_value u x) h = tt
numbers_in_lem w (color_value k) h = tt
numbers_in_lem w (tries_value t) h = tt

numbers_long : (n : Node) (id : ℕ) → ListLong (node_numbers n) (numbers_of n id)
numbers_long n id = numbers_in_lem (node_numbers n) (value_under id n.attributes) (lookup_long id n.attributes)

-- ---- feComponentTransfer: a child is the function of one channel

abbrev FunctionLong : ℕ → Option TransferFunction → Type 0
FunctionLong w None = Unit {0}
FunctionLong w (Some f) = table_bytes f ≤ w

table_long : (w : ℕ) (o : Option (List Float)) → ListLong w o → 4 * length (or_empty o) ≤ w
table_long w None h = omega arith
table_long w (Some xs) h = h

abbrev typed : Node → List ℕ → Bool
typed n w = is_word (text_of n ids.aid_type) w

function_long : (n : Node) → FunctionLong (node_numbers n) (transfer_function_of n)
unfolding transfer_function_of keyword
function_long n =
    let w = node_numbers n in
    let P = FunctionLong w in
    let z : 0 ≤ w = omega arith in
    let t : 4 * length (table_values_of n) ≤ w = table_long w (numbers_of n ids.aid_table_values) (numbers_long n ids.aid_table_values) in
    choose P (typed n (word "identity")) _ _ z
    (choose P (typed n (word "table")) _ _ t
    (choose P (typed n (word "discrete")) _ _ t
    (choose P (typed n (word "linear")) _ _ z
    (choose P (typed n (word "gamma")) _ _ z tt))))

-- what the children of a tag pay
abbrev tag_numbers : ℕ → List Node → ℕ
tag_numbers tag [] = 0
tag_numbers tag (n ∷ ns) = cond (eqb n.tag tag) (node_numbers n) 0 + tag_numbers tag ns

last_long : (tag : ℕ) (ns : List Node) (w : ℕ) (d : TransferFunction) → table_bytes d ≤ w → table_bytes (last_or d (functions_of tag ns)) ≤ w + tag_numbers tag ns
unfolding functions_of last_or
last_long tag [] w d h = omega arith
last_long tag (n ∷ ns) w d h = go (eqb n.tag tag) (transfer_function_of n) (function_long n) (last_long tag ns)
  where
    go : (b : Bool) (o : Option TransferFunction) → FunctionLong (node_numbers n) o → ((w : ℕ) (d : TransferFunction) → table_bytes d ≤ w → table_bytes (last_or d (functions_of tag ns)) ≤ w + tag_numbers tag ns)
        → table_bytes (last_or d (wanted b o ++ functions_of tag ns)) ≤ w + (cond b (node_numbers n) 0 + tag_numbers tag ns)
    go true (Some f) k later = omega (arith, later (w + node_numbers n) f (omega arith))
    go true None k later = omega (arith, later w d h)
    go false o k later = omega (arith, later w d h)

-- no child has two tags
one_tag : (w tag : ℕ) (r g b a : Bool) → eqb tag ids.eid_fe_func_r ≡ r → eqb tag ids.eid_fe_func_g ≡ g → eqb tag ids.eid_fe_func_b ≡ b → eqb tag ids.eid_fe_func_a ≡ a
    → cond r w 0 + cond g w 0 + cond b w 0 + cond a w 0 ≤ w
one_tag w tag true true b a hr hg hb ha = absurd (omega (arith, eqb-true tag ids.eid_fe_func_r hr, eqb-true tag ids.eid_fe_func_g hg))
one_tag w tag true false true a hr hg hb ha = absurd (omega (arith, eqb-true tag ids.eid_fe_func_r hr, eqb-true tag ids.eid_fe_func_b hb))
one_tag w tag true false false true hr hg hb ha = absurd (omega (arith, eqb-true tag ids.eid_fe_func_r hr, eqb-true tag ids.eid_fe_func_a ha))
one_tag w tag true false false false hr hg hb ha = omega arith
one_tag w tag false true true a hr hg hb ha = absurd (omega (arith, eqb-true tag ids.eid_fe_func_g hg, eqb-true tag ids.eid_fe_func_b hb))
one_tag w tag false true false true hr hg hb ha = absurd (omega (arith, eqb-true tag ids.eid_fe_func_g hg, eqb-true tag ids.eid_fe_func_a ha))
one_tag w tag false true false false hr hg hb ha = omega arith
one_tag w tag false false true true hr hg hb ha = absurd (omega (arith, eqb-true tag ids.eid_fe_func_b hb, eqb-true tag ids.eid_fe_func_a ha))
one_tag w tag false false true false hr hg hb ha = omega arith
one_tag w tag false false false true hr hg hb ha = omega arith
one_tag w tag false false false false hr hg hb ha = omega arith

tags_apart : (ns : List Node) → tag_numbers ids.eid_fe_func_r ns + tag_numbers ids.eid_fe_func_g ns + tag_numbers ids.eid_fe_func_b ns + tag_numbers ids.eid_fe_func_a ns ≤ nodes_numbers ns
tags_apart [] = omega arith
tags_apart (n ∷ ns) =
    let t = n.tag in
    omega (arith, tags_apart ns, one_tag (node_numbers n) t (eqb t ids.eid_fe_func_r) (eqb t ids.eid_fe_func_g) (eqb t ids.eid_fe_func_b) (eqb t ids.eid_fe_func_a) refl refl refl refl)

transfer_long : (children : List Node) → tables_bytes (component_transfer_of children) ≤ nodes_numbers children
transfer_long children =
    let z : table_bytes Identity ≤ 0 = omega arith in
    omega (
      arith,
      last_long ids.eid_fe_func_r children 0 Identity z,
      last_long ids.eid_fe_func_g children 0 Identity z,
      last_long ids.eid_fe_func_b children 0 Identity z,
      last_long ids.eid_fe_func_a children 0 Identity z,
      tags_apart children,
    )

-- ---- feConvolveMatrix

abbrev DataLong : ℕ → Option ConvolveMatrixData → Type 0
DataLong w None = Unit {0}
DataLong w (Some m) = 4 * length m.numbers ≤ w

abbrev FieldsLong : ℕ → Option ConvolveMatrixFields → Type 0
FieldsLong w None = Unit {0}
FieldsLong w (Some v) = 4 * length v.matrix.numbers ≤ w

matrix_with_lem : (w : ℕ) (o : Order) (x y : Option ℕ) (xs : List Float) → 4 * length xs ≤ w → DataLong w (matrix_with o x y xs)
matrix_with_lem w o (Some x) (Some y) xs h = choose (DataLong w) (eqb (length xs) (o.columns * o.rows)) _ None h tt
matrix_with_lem w o (Some x) None xs h = tt
matrix_with_lem w o None y xs h = tt

convolve_with_lem : (w : ℕ) (n : Node) (d : Float) (m : Option ConvolveMatrixData) → DataLong w m → FieldsLong w (convolve_with n d m)
convolve_with_lem w n d None h = tt
convolve_with_lem w n d (Some m) h = h

convolve_of_lem : (w : ℕ) (n : Node) (o : Option (List Float)) → ListLong w o → FieldsLong w (convolve_of n o)
convolve_of_lem w n None h = tt
convolve_of_lem w n (Some xs) h =
    choose (FieldsLong w) (near_zero (divisor_of n xs)) None (convolve_with n (divisor_of n xs) (kernel_matrix_of n xs)) tt
    (convolve_with_lem w n (divisor_of n xs) (kernel_matrix_of n xs)
    (matrix_with_lem w (order_of n) (target_of (number_of n ids.aid_target_x) (order_of n).columns) (target_of (number_of n ids.aid_target_y) (order_of n).rows) xs h))

-- ---- what is made of a node and its children

abbrev MadeLong : ℕ → ElementKind → Type 0
MadeLong w (made k) = varying k ≤ w
MadeLong w no_primitive = Unit {0}
MadeLong w (element.refused why) = Unit {0}

module _ (f : Frame) (n : Node) (children : List Node) where
  abbrev paid : ℕ
  paid = 258 * length children + node_numbers n + nodes_numbers children

  nothing : 0 ≤ paid
  nothing = omega arith

  convolve_made_lem : (o : Option ConvolveMatrixFields) → FieldsLong (node_numbers n) o → MadeLong paid (convolve_made n o)
  convolve_made_lem None h = nothing
  convolve_made_lem (Some v) h = omega arith

  diffuse_made_lem : (m : Option DiffuseLighting) → MadeLong paid (diffuse_made n m)
  diffuse_made_lem (Some v) = nothing
  diffuse_made_lem None = nothing

  specular_made_lem : (m : Option SpecularLighting) → MadeLong paid (specular_made n m)
  specular_made_lem (Some v) = nothing
  specular_made_lem None = nothing

  morphology_made_lem : (m : Result Morphology Refusal) → MadeLong paid (morphology_made n m)
  morphology_made_lem (Ok v) = nothing
  morphology_made_lem (Err why) = tt

  displacement_made_lem : (m : Result DisplacementMap Refusal) → MadeLong paid (displacement_made n m)
  displacement_made_lem (Ok v) = nothing
  displacement_made_lem (Err why) = tt

  turbulence_made_lem : (m : Result Turbulence Refusal) → MadeLong paid (turbulence_made m)
  turbulence_made_lem (Ok v) = nothing
  turbulence_made_lem (Err why) = tt

  merge_long : 258 * length (map in_of children) ≤ paid
  merge_long = omega (arith, length-map children in_of)

  component_long : tables_bytes (component_transfer_of children) ≤ paid
  component_long = omega (arith, transfer_long children)

  elements_long : All (MadeLong paid) tt (elements f n children)
  elements_long =
      nothing  -- feDropShadow
      and nothing  -- feGaussianBlur
      and nothing  -- feOffset
      and nothing  -- feBlend
      and nothing  -- feFlood
      and nothing  -- feComposite
      and merge_long
      and nothing  -- feTile
      and component_long
      and nothing  -- feColorMatrix
      and convolve_made_lem (convolve_matrix_of n) (convolve_of_lem (node_numbers n) n (numbers_of n ids.aid_kernel_matrix) (numbers_long n ids.aid_kernel_matrix))
      and morphology_made_lem (morphology_of n (scale_of f))
      and displacement_made_lem (displacement_map_of n (scale_of f))
      and turbulence_made_lem (turbulence_of n)
      and diffuse_made_lem (diffuse_lighting_of n children)
      and specular_made_lem (specular_lighting_of n children)
      and tt

  kind_long : MadeLong paid (kind_of f n children)
  unfolding kind_of
  kind_long = by_tag_lem (MadeLong paid) tt (elements f n children) n.tag elements_long

-- ---- the chain: a child of a node pays for its parent alone

abbrev StepLong : ℕ → Step → Type 0
StepLong w pass = Unit {0}
StepLong w end = Unit {0}
StepLong w (chain.refused why) = Unit {0}
StepLong w (count c) = varying c.kind ≤ w

kind_step_lem : (w : ℕ) (n : Node) (r : Rect) (m : ElementKind) → MadeLong w m → StepLong w (kind_step n r m)
kind_step_lem w n r (made k) h = h
kind_step_lem w n r no_primitive h = tt
kind_step_lem w n r (element.refused why) h = tt

abbrev ChainLong : ℕ → Chain → Type 0
ChainLong w (chain.refused why) = Unit {0}
ChainLong w (kept cs) = children_long cs ≤ w

more_long : (w w' : ℕ) (c : Chain) → w ≤ w' → ChainLong w c → ChainLong w' c
more_long w w' (chain.refused why) h k = tt
more_long w w' (kept cs) h k = omega arith

put_long : (w v : ℕ) (c : Child) (rest : Chain) → varying c.kind ≤ v → ChainLong w rest → ChainLong (816 + v + w) (keep_first c rest)
put_long w v c (chain.refused why) h k = tt
put_long w v c (kept cs) h k = omega arith

follow_long : (w v : ℕ) (step : Step) (rest : Chain) → StepLong v step → ChainLong w rest → ChainLong (816 + v + w) (follow step rest)
follow_long w v pass rest h k = more_long w (816 + v + w) rest (omega arith) k
follow_long w v end rest h k = omega arith
follow_long w v (chain.refused why) rest h k = tt
follow_long w v (count c) rest h k = put_long w v c rest h k

-- the nodes behind the children of the node before
unfoldable behind : List Node → List Node
behind [] = []
behind (n ∷ rest) = cond (eqb n.depth 1) (behind rest) (n ∷ rest)

split_length : (ns : List Node) → length ns ≡ length (child_nodes ns) + length (behind ns)
unfolding child_nodes behind
split_length [] = refl
split_length (n ∷ rest) = go (eqb n.depth 1) (split_length rest)
  where
    go : (b : Bool) → length rest ≡ length (child_nodes rest) + length (behind rest) → length (n ∷ rest) ≡ length (cond b (n ∷ child_nodes rest) []) + length (cond b (behind rest) (n ∷ rest))
    go true h = omega arith
    go false h = omega arith

split_numbers : (ns : List Node) → nodes_numbers ns ≡ nodes_numbers (child_nodes ns) + nodes_numbers (behind ns)
unfolding child_nodes behind
split_numbers [] = refl
split_numbers (n ∷ rest) = go (eqb n.depth 1) (split_numbers rest)
  where
    go : (b : Bool) → nodes_numbers rest ≡ nodes_numbers (child_nodes rest) + nodes_numbers (behind rest) → nodes_numbers (n ∷ rest) ≡ nodes_numbers (cond b (n ∷ child_nodes rest) []) + nodes_numbers (cond b (behind rest) (n ∷ rest))
    go true h = omega arith
    go false h = omega arith

-- what nodes pay: 816 bytes each, and the bytes of their numbers
abbrev pays : List Node → ℕ
pays ns = 816 * length ns + nodes_numbers ns

module _ (f : Frame) where
  region_step_lem : (n : Node) (children : List Node) (m : Option Rect) → StepLong (paid f n children) (region_step f n children m)
  region_step_lem n children (Some r) = kind_step_lem (paid f n children) n r (kind_of f n children) (kind_long f n children)
  region_step_lem n children None = tt

  -- the step of a node that is no child of the one before
  abbrev tagged_step : Node → List Node → Step
  tagged_step n rest = cond (eqb n.tag 0) pass (region_step f n (child_nodes rest) (region_of f n))

  tagged_step_lem : (n : Node) (rest : List Node) → StepLong (paid f n (child_nodes rest)) (tagged_step n rest)
  tagged_step_lem n rest = choose (StepLong (paid f n (child_nodes rest))) (eqb n.tag 0) pass _ tt (region_step_lem n (child_nodes rest) (region_of f n))

  chain_behind : (ns : List Node) → ChainLong (pays (behind ns)) (chain.chain f ns)
  unfolding chain.chain behind step_of
  chain_behind [] = omega arith
  chain_behind (n ∷ rest) = go (eqb n.depth 1) (chain_behind rest)
    where
      go : (b : Bool) → ChainLong (pays (behind rest)) (chain.chain f rest) → ChainLong (pays (cond b (behind rest) (n ∷ rest))) (follow (cond b pass (tagged_step n rest)) (chain.chain f rest))
      go true h = h
      go false h =
          more_long (816 + paid f n (child_nodes rest) + pays (behind rest)) (pays (n ∷ rest)) (follow (tagged_step n rest) (chain.chain f rest)) (omega (arith, split_length rest, split_numbers rest))
          (follow_long (pays (behind rest)) (paid f n (child_nodes rest)) (tagged_step n rest) (chain.chain f rest) (tagged_step_lem n rest) h)

  pub chain_long : (ns : List Node) (cs : List Child) → chain.chain f ns ≡ kept cs → children_long cs ≤ pays ns
  chain_long ns cs e =
      let h : children_long cs ≤ pays (behind ns) = subst (ChainLong (pays (behind ns))) e (chain_behind ns) in
      omega (arith, split_length ns, split_numbers ns)
