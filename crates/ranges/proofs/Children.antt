-- What holds of every child that a node counts as holds of the chain's children, and what holds of every refusal that a node gives holds of the chain's;
-- and a chain has at most one child a node. Assumes nothing.
use Rattle.std.specs.Prelude.{None, Option, Some}
use Prim.Native.Nat.{ℕ, suc, ◌≤◌}
use native.Mathlib.Omega.{arith}
use mathlib.Core.Path.{◌≡◌, refl}
use mathlib.Core.List.{List, [], ◌∷◌}
use lib.Dec.{eqb}
use lib.ListN.{length}
use Rattle.num.proofs.Each.{choose}
use Rattle.answer.specs.declared.Refusal.{Refusal}
use Rattle.names.specs.Ids.{aid_result}
use Rattle.geom.specs.declared.Rect.{Rect}
use Rattle.svgtree.specs.Values.{Node}
use Rattle.svgtree.specs.Readers.{text_of, child_nodes}
use Rattle.tree.specs.Input.{Name}
use Rattle.tree.specs.Kinds.{Kind}
use Rattle.region.specs.declared.Frame.{Frame}
use Rattle.subregion.specs.Subregions.{region_of}
use Rattle.fe.specs.ColorInterpolation.{color_interpolation_of}
use Rattle.child.specs.Child.{Child}
use Rattle.elements.specs.Elements.{ElementKind, made, no_primitive, Tagged, ◌gives◌, by_tag, kind_of}
use Rattle.elements.specs.Elements as element
use Rattle.chain.specs.Chain as chain
use Rattle.chain.specs.Chain.{Step, pass, end, count, kind_step, region_step, step_of, Chain, kept, keep_first, follow}

-- the child that a node is, with its subregion and its kind
abbrev pub child_of : Node → Rect → Kind (Option Name) → Child
child_of n r k = record { rect = r; color_interpolation = color_interpolation_of n; own = text_of n aid_result; kind = k }

-- ---- what an element gives: K of its kind, R of its refusal

-- where only the kind matters
abbrev pub AnyRefusal : Refusal → Type 0
AnyRefusal r = Unit {0}

module _ (K : Kind (Option Name) → Type 0) (R : Refusal → Type 0) where
  abbrev pub MadeAll : ElementKind → Type 0
  MadeAll (made k) = K k
  MadeAll no_primitive = Unit {0}
  MadeAll (element.refused why) = R why

-- what holds of everything that the tags of a table give, and of a tag without a primitive, holds of what any tag gives
module _ (P : ElementKind → Type 0) (other : P no_primitive) where
  abbrev pub All : List Tagged → Type 0
  All [] = Unit {0}
  All ((t gives m) ∷ rest) = P m × All rest

  pub by_tag_lem : (xs : List Tagged) (tag : ℕ) → All xs → P (by_tag xs tag)
  unfolding by_tag
  by_tag_lem [] tag h = other
  by_tag_lem ((t gives m) ∷ rest) tag h = choose P (eqb tag t) m (by_tag rest tag) h.0 (by_tag_lem rest tag h.1)

-- ---- the children: P of each, R of a refusal

module _ (P : Child → Type 0) where
  abbrev pub ChildrenAll : List Child → Type 0
  ChildrenAll [] = Unit {0}
  ChildrenAll (c ∷ cs) = P c × ChildrenAll cs

  module _ (R : Refusal → Type 0) where
    abbrev StepAll : Step → Type 0
    StepAll pass = Unit {0}
    StepAll end = Unit {0}
    StepAll (chain.refused why) = R why
    StepAll (count c) = P c

    abbrev pub ChainAll : Chain → Type 0
    ChainAll (chain.refused why) = R why
    ChainAll (kept cs) = ChildrenAll cs

    put_all : (c : Child) (rest : Chain) → P c → ChainAll rest → ChainAll (keep_first c rest)
    put_all c (chain.refused why) h k = k
    put_all c (kept cs) h k = (h, k)

    follow_all : (step : Step) (rest : Chain) → StepAll step → ChainAll rest → ChainAll (follow step rest)
    follow_all pass rest h k = k
    follow_all end rest h k = tt
    follow_all (chain.refused why) rest h k = h
    follow_all (count c) rest h k = put_all c rest h k

    -- N is known of the nodes from a node on: of the node's child by its kind (K) and its subregion, and of the nodes behind it
    module _ (f : Frame) (N : List Node → Type 0) (K : Kind (Option Name) → Type 0)
        (kind : (n : Node) (rest : List Node) → N (n ∷ rest) → MadeAll K R (kind_of f n (child_nodes rest)))
        (child : (n : Node) (rest : List Node) → N (n ∷ rest) → (r : Rect) → region_of f n ≡ Some r → (k : Kind (Option Name)) → K k → P (child_of n r k))
        (behind : (n : Node) (rest : List Node) → N (n ∷ rest) → N rest) where
      kind_step_lem : (n : Node) (r : Rect) (m : ElementKind) → ((k : Kind (Option Name)) → K k → P (child_of n r k)) → MadeAll K R m → StepAll (kind_step n r m)
      kind_step_lem n r (made k) c h = c k h
      kind_step_lem n r no_primitive c h = tt
      kind_step_lem n r (element.refused why) c h = h

      region_step_lem : (n : Node) (rest : List Node) → N (n ∷ rest) → (m : Option Rect) → region_of f n ≡ m → StepAll (region_step f n (child_nodes rest) m)
      region_step_lem n rest h (Some r) e = kind_step_lem n r (kind_of f n (child_nodes rest)) (child n rest h r e) (kind n rest h)
      region_step_lem n rest h None e = tt

      step_all : (n : Node) (rest : List Node) → N (n ∷ rest) → StepAll (step_of f n rest)
      unfolding step_of
      step_all n rest h =
          choose StepAll (eqb n.depth 1) pass _ tt (choose StepAll (eqb n.tag 0) pass _ tt (region_step_lem n rest h (region_of f n) refl))

      pub chain_all : (ns : List Node) → N ns → ChainAll (chain.chain f ns)
      unfolding chain.chain
      chain_all [] h = tt
      chain_all (n ∷ rest) h = follow_all (step_of f n rest) (chain.chain f rest) (step_all n rest h) (chain_all rest (behind n rest h))

-- ---- at most one child a node

abbrev pub ChainFew : ℕ → Chain → Type 0
ChainFew n (chain.refused why) = Unit {0}
ChainFew n (kept cs) = length cs ≤ n

put_few : (n : ℕ) (c : Child) (rest : Chain) → ChainFew n rest → ChainFew (suc n) (keep_first c rest)
put_few n c (chain.refused why) k = tt
put_few n c (kept cs) k = omega (arith, k)

more_few : (n : ℕ) (rest : Chain) → ChainFew n rest → ChainFew (suc n) rest
more_few n (chain.refused why) k = tt
more_few n (kept cs) k = omega (arith, k)

follow_few : (n : ℕ) (step : Step) (rest : Chain) → ChainFew n rest → ChainFew (suc n) (follow step rest)
follow_few n pass rest k = more_few n rest k
follow_few n end rest k = omega arith
follow_few n (chain.refused why) rest k = tt
follow_few n (count c) rest k = put_few n c rest k

pub chain_few : (f : Frame) (ns : List Node) → ChainFew (length ns) (chain.chain f ns)
unfolding chain.chain
chain_few f [] = omega arith
chain_few f (n ∷ rest) = follow_few (length rest) (step_of f n rest) (chain.chain f rest) (chain_few f rest)
