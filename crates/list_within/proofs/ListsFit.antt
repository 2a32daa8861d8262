-- A list that is made in a sound frame of accepted nodes lies within the layout of lists: each child that counts fits, naming keeps its numbers and its
-- counts, and a made name is short. Assumes nothing.
use Prim.Native.Nat.{ℕ, suc, ◌+◌, ◌≤◌, ◌<◌}
use native.Mathlib.Omega.{arith}
use mathlib.Core.Path.{◌≡◌, refl, sym, ap, subst}
use mathlib.Core.Bool.{true}
use mathlib.Core.List.{List, [], ◌∷◌}
use lib.ListN.{length, length-map}
use lib.Ieee.{binary32}
use lib.Ieee.Fits.{sub-fits}
use Rattle.names.specs.Ids.{aid_result}
use Rattle.geom.specs.declared.Rect.{Rect}
use Rattle.geom.proofs.Rectangles.{EdgesFit}
use Rattle.svgtree.specs.Values.{Node}
use Rattle.svgtree.specs.Readers.{child_nodes}
use Rattle.sheet_accepted.specs.Nodes.{AcceptedNodes}
use Rattle.sheet_accepted.proofs.Accepted.{accepted_rest, children_accepted, children_few}
use Rattle.region.specs.declared.Frame.{Frame}
use Rattle.region.proofs.Regions.{SoundFrame}
use Rattle.subregion.proofs.Numbers.{subregion_fits}
use Rattle.tree.specs.Kinds.{Kind, Blend, ColorMatrix, ComponentTransfer, Composite, ConvolveMatrix, DiffuseLighting, DisplacementMap, DropShadow, Flood, GaussianBlur, Image, Merge, Morphology, Offset, SpecularLighting, Tile, Turbulence, map_kind, inputs_of}
use Rattle.tree.specs.Input as tree
use Rattle.tree.proofs.Inputs.{inputs_map}
use Rattle.child.specs.Child.{Child}
use Rattle.elements.specs.Elements.{kind_of}
use Rattle.chain.specs.Chain.{kept, chain}
use Rattle.naming.specs.Names.{Results, start, names_so_far, after}
use Rattle.naming.specs.Inputs.{resolve}
use Rattle.list_primitives.specs.Primitives.{primitive_of, primitives_from, primitives}
use Rattle.num.specs.Numbers.{Each}
use Rattle.ranges.specs.Numbers.{rect_numbers, numbers_of_kind, primitive_numbers, list_numbers}
use Rattle.ranges.proofs.Children.{AnyRefusal, ChildrenAll, ChainAll, chain_all, ChainFew, chain_few}
use Rattle.num.proofs.Each.{each_append}
use Rattle.list_read.specs.Records.{form1}
use Rattle.list_read.specs.Write.{inputs_fit}
use Rattle.list_read_back.specs.Within.{KindWithin, Within, AllWithin, Fits}
use Rattle.list_within.specs.Fitting.{OptionFit}
use Rattle.list_within.specs.Lists.{ListWithin}
use Rattle.list_within.proofs.KindsFit.{KindFit, MadeFit, kind_fit, text_of_lem}
use Rattle.list_within.proofs.NamesFit.{StateFit, start_fit, label_fit, after_fit, inputs_fit_lem}

-- ---- a child that counts, and the chain

record ChildFit (c : Child) : Type 0 where
  rect : Each Fits (rect_numbers c.rect)
  own : OptionFit c.own
  kind : KindFit c.kind

rect_fit : (r : Rect) → EdgesFit r → Each Fits (rect_numbers r)
rect_fit r h = (h.fits_left, (h.fits_top, (sub-fits binary32 r.right r.left, (sub-fits binary32 r.bottom r.top, tt))))

made_fit : (f : Frame) (n : Node) (rest : List Node) → AcceptedNodes (n ∷ rest) → MadeFit (kind_of f n (child_nodes rest))
made_fit f n rest h =
    let k : length (child_nodes rest) ≤ length rest = children_few rest in
    kind_fit f n (child_nodes rest) h.each.0 (children_accepted rest h.each.1) (omega (arith, k, h.few))

chain_fit : (f : Frame) → SoundFrame f → (ns : List Node) → AcceptedNodes ns → ChainAll ChildFit AnyRefusal (chain f ns)
chain_fit f p =
    chain_all ChildFit AnyRefusal f AcceptedNodes KindFit (made_fit f)
    (λ n rest h r e k s. record { rect = rect_fit r (subregion_fits f n r p e); own = text_of_lem n h.each.0 aid_result; kind = s })
    accepted_rest

-- ---- a kind's inputs are resolved: its numbers and its counts stay

map_numbers : {A B : Type 0} (f : A → B) (k : Kind A) → numbers_of_kind (map_kind f k) ≡ numbers_of_kind k
unfolding map_kind
map_numbers f (Blend a b v) = refl
map_numbers f (ColorMatrix a v) = refl
map_numbers f (ComponentTransfer a v) = refl
map_numbers f (Composite a b v) = refl
map_numbers f (ConvolveMatrix a v) = refl
map_numbers f (DiffuseLighting a v) = refl
map_numbers f (DisplacementMap a b v) = refl
map_numbers f (DropShadow a v) = refl
map_numbers f (Flood v) = refl
map_numbers f (GaussianBlur a v) = refl
map_numbers f (Image never) = absurd never
map_numbers f (Merge inputs) = refl
map_numbers f (Morphology a v) = refl
map_numbers f (Offset a v) = refl
map_numbers f (SpecularLighting a v) = refl
map_numbers f (Tile a) = refl
map_numbers f (Turbulence v) = refl

map_counts : {A B : Type 0} (f : A → B) (k : Kind A) → KindWithin k → KindWithin (map_kind f k)
unfolding map_kind
map_counts f (Blend a b v) h = h
map_counts f (ColorMatrix a v) h = h
map_counts f (ComponentTransfer a v) h = h
map_counts f (Composite a b v) h = h
map_counts f (ConvolveMatrix a v) h = h
map_counts f (DiffuseLighting a v) h = h
map_counts f (DisplacementMap a b v) h = h
map_counts f (DropShadow a v) h = h
map_counts f (Flood v) h = h
map_counts f (GaussianBlur a v) h = h
map_counts f (Image never) h = absurd never
map_counts f (Merge inputs) h = subst (λ (n : ℕ). n ≤ 511) (sym (length-map inputs f)) h
map_counts f (Morphology a v) h = h
map_counts f (Offset a v) h = h
map_counts f (SpecularLighting a v) h = h
map_counts f (Tile a) h = h
map_counts f (Turbulence v) h = h

-- ---- the primitives

primitive_within : (i : ℕ) (st : Results) → StateFit i st → i < 512 → (c : Child) → ChildFit c → Within (primitive_of st c)
primitive_within i st t l c h =
    record {
      name = label_fit i st t l c.own h.own;
      inputs = subst (λ (is : List tree.Input). inputs_fit form1 is ≡ true) (sym (inputs_map (resolve (names_so_far st)) c.kind)) (inputs_fit_lem (names_so_far st) t.names (inputs_of c.kind) h.kind.inputs);
      counts = map_counts (resolve (names_so_far st)) c.kind h.kind.counts;
    }

all_within : (i : ℕ) (st : Results) (cs : List Child) → StateFit i st → i + length cs ≤ 512 → ChildrenAll ChildFit cs → AllWithin (primitives_from st cs)
unfolding primitives_from AllWithin
all_within i st [] t l h = tt
all_within i st (c ∷ cs) t l h =
    let few : i < 512 = omega arith in
    (primitive_within i st t few c h.0, all_within (suc i) (after st c.own) cs (after_fit i st t few c.own h.0.own) (omega arith) h.1)

all_fits : (st : Results) (cs : List Child) → ChildrenAll ChildFit cs → Each Fits (list_numbers (primitives_from st cs))
unfolding primitives_from list_numbers
all_fits st [] h = tt
all_fits st (c ∷ cs) h =
    let p = primitive_of st c in
    each_append Fits (primitive_numbers p) (list_numbers (primitives_from (after st c.own) cs))
    (each_append Fits (rect_numbers p.rect) (numbers_of_kind p.kind) h.0.rect (subst (Each Fits) (sym (map_numbers (resolve (names_so_far st)) c.kind)) h.0.kind.numbers))
    (all_fits (after st c.own) cs h.1)

pub one_each : (st : Results) (cs : List Child) → length (primitives_from st cs) ≡ length cs
unfolding primitives_from
one_each st [] = refl
one_each st (c ∷ cs) = ap suc (one_each (after st c.own) cs)

-- ---- the whole list

list_within : (cs : List Child) → ChildrenAll ChildFit cs → length cs ≤ 512 → ListWithin (primitives cs)
list_within cs h l =
    record {
      few = subst (λ (n : ℕ). n ≤ 512) (sym (one_each start cs)) l;
      within = all_within 0 start cs start_fit (omega arith) h;
      fits = all_fits start cs h;
    }

pub within_none : ListWithin (primitives [])
within_none = list_within [] tt (omega arith)

pub within : (f : Frame) (ns : List Node) → SoundFrame f → AcceptedNodes ns → (cs : List Child) → chain f ns ≡ kept cs → ListWithin (primitives cs)
within f ns p accepted cs counted =
    let few : length cs ≤ length ns = subst (ChainFew (length ns)) counted (chain_few f ns) in
    list_within cs (subst (ChainAll ChildFit AnyRefusal) counted (chain_fit f p ns accepted)) (omega (arith, few, accepted.few))
