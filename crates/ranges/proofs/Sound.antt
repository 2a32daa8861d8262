-- In a list that is made in a sound frame of accepted nodes no number is NaN and each is in its range: the frame's scale is finite and above zero, an
-- accepted node has its flood-opacity in range, so each child that counts is sound, and naming changes no number. Assumes nothing.
use mathlib.Core.Path.{◌≡◌, subst}
use mathlib.Core.Bool.{Bool, true, false, cond}
use mathlib.Core.List.{List, [], ◌∷◌}
use lib.Dec.{T, leb, le→leb}
use lib.Ieee.{of_bits, le}
use lib.Ieee.Scale.{finite}
use Rattle.names.specs.Ids.{aid_flood_color, aid_flood_opacity}
use Rattle.num.specs.Constants.{plus_zero, one}
use Rattle.num.specs.Narrowed.{or_zero}
use Rattle.num.specs.Sign.{opacity_in}
use Rattle.geom.specs.declared.Rect.{Rect}
use Rattle.geom.proofs.Rectangles.{Numbers}
use Rattle.svgtree.specs.Values.{Value, absent, text_value, number_value, numbers_value, length_value, color_value, tries_value, Node}
use Rattle.svgtree.specs.Readers.{number_in, color_in, value_under, or_default, child_nodes}
use Rattle.sheet_check.specs.Numbers.{opacity_ok}
use Rattle.sheet_accepted.specs.Nodes.{AcceptedValue, AcceptedNode, AcceptedNodes}
use Rattle.sheet_accepted.proofs.Accepted.{accepted_rest}
use Rattle.region.specs.declared.Frame.{Frame}
use Rattle.region.proofs.Regions.{SoundFrame}
use Rattle.subregion.proofs.Numbers.{subregion_numbers, scale_positive}
use Rattle.fe_flood.specs.Flood.{or_black}
use Rattle.num.specs.Numbers.{IsNumber, Each}
use Rattle.child.specs.Child.{Child}
use Rattle.chain.specs.Chain.{kept, chain}
use Rattle.naming.specs.Names.{Results, start, names_so_far, after}
use Rattle.naming.specs.Inputs.{resolve}
use Rattle.list_primitives.specs.Primitives.{primitive_of, primitives_from, primitives}
use Rattle.ranges.specs.Numbers.{rect_numbers, numbers_of_kind, primitive_numbers, list_numbers, AllInRange, Sound}
use Rattle.ranges.proofs.Children.{AnyRefusal, ChildrenAll, ChainAll, chain_all}
use Rattle.num.proofs.Each.{each_append}
use Rattle.ranges.proofs.KindNumbers.{KindSound, map_sound, FloodOk, kind_sound}

-- ---- the flood of an accepted node

value_alpha : (v : Value) → AcceptedValue v → T (leb (or_black (color_in v)).alpha 255)
unfolding color_in
value_alpha absent h = tt
value_alpha (text_value t) h = tt
value_alpha (number_value x) h = tt
value_alpha (numbers_value xs) h = tt
value_alpha (length_value u x) h = tt
value_alpha (color_value k) h = le→leb k.alpha 255 h
value_alpha (tries_value t) h = tt

-- +0 and 1 are opacities
ends : T (opacity_in plus_zero) × T (opacity_in one)
unfolding opacity_in of_bits le
ends = (tt, tt)

value_opacity : (v : Value) → T (opacity_ok v) → T (opacity_in (or_default (number_in v) one))
unfolding opacity_ok number_in or_zero
value_opacity absent h = ends.1
value_opacity (text_value t) h = ends.1
value_opacity (number_value x) h = go (finite x)
  where
    go : (b : Bool) → T (opacity_in (cond b x plus_zero))
    go true = h
    go false = ends.0
value_opacity (numbers_value xs) h = ends.1
value_opacity (length_value u x) h = ends.1
value_opacity (color_value k) h = ends.1
value_opacity (tries_value t) h = ends.1

flood_ok : (n : Node) → AcceptedNode n → FloodOk n
flood_ok n h =
    record {
      alpha = value_alpha (value_under aid_flood_color n.attributes) (h.value aid_flood_color);
      opacity = value_opacity (value_under aid_flood_opacity n.attributes) h.opacity;
    }

-- ---- a child that counts, and the chain

record ChildSound (c : Child) : Type 0 where
  rect : Each IsNumber (rect_numbers c.rect)
  kind : KindSound c.kind

rect_sound : (r : Rect) → Numbers r → Each IsNumber (rect_numbers r)
rect_sound r h = (h.x.1, (h.y.1, (h.width.1, (h.height.1, tt))))

chain_sound : (f : Frame) → SoundFrame f → (ns : List Node) → AcceptedNodes ns → ChainAll ChildSound AnyRefusal (chain f ns)
chain_sound f p =
    chain_all ChildSound AnyRefusal f AcceptedNodes KindSound
    (λ n rest h. kind_sound f n (child_nodes rest) (scale_positive f p) (flood_ok n h.each.0))
    (λ n rest h r e k s. record { rect = rect_sound r (subregion_numbers f n r e); kind = s })
    accepted_rest

-- ---- the primitives

primitives_sound : (st : Results) (cs : List Child) → ChildrenAll ChildSound cs → Sound (primitives_from st cs)
unfolding primitives_from list_numbers AllInRange
primitives_sound st [] h = record { numbers = tt; ranges = tt }
primitives_sound st (c ∷ cs) h =
    let k = map_sound (resolve (names_so_far st)) c.kind h.0.kind in
    let p = primitive_of st c in
    let rest = primitives_from (after st c.own) cs in
    let later = primitives_sound (after st c.own) cs h.1 in
    record {
      numbers =
          each_append IsNumber (primitive_numbers p) (list_numbers rest)
          (each_append IsNumber (rect_numbers p.rect) (numbers_of_kind p.kind) h.0.rect k.numbers)
          later.numbers;
      ranges = (k.ranges, later.ranges);
    }

-- ---- the whole list

pub sound_none : Sound (primitives [])
sound_none = primitives_sound start [] tt

pub sound : (f : Frame) (ns : List Node) → SoundFrame f → AcceptedNodes ns → (cs : List Child) → chain f ns ≡ kept cs → Sound (primitives cs)
sound f ns p accepted cs counted = primitives_sound start cs (subst (ChainAll ChildSound AnyRefusal) counted (chain_sound f p ns accepted))
