-- The children that count: a child counts if a primitive is made of its tag and neither it nor an earlier child ended the chain. The names of
-- results are not looked at. Definitions only.
use Rattle.std.specs.Prelude.{cond, List, [], ◌∷◌, eqb, None, Option, Some}
use Rattle.answer.specs.declared.Refusal.{Refusal}
use Rattle.names.specs.Ids.{aid_result}
use Rattle.geom.specs.declared.Rect.{Rect}
use Rattle.svgtree.specs.Values.{Node}
use Rattle.svgtree.specs.Readers.{text_of, child_nodes}
use Rattle.child.specs.Child.{Child}
use Rattle.region.specs.declared.Frame.{Frame}
use Rattle.subregion.specs.Subregions.{region_of}
use Rattle.fe.specs.ColorInterpolation.{color_interpolation_of}
use Rattle.elements.specs.Elements.{ElementKind, made, no_primitive, kind_of}
use Rattle.elements.specs.Elements as element

-- what a node does to the chain: it is passed over, it ends the chain, it refuses the sheet, or it is a child that counts
pub data Step : Type 0 where
  pass : Step
  end : Step
  refused : Refusal → Step
  count : Child → Step

-- a child in its subregion, by what its element gives
abbrev pub kind_step : Node → Rect → ElementKind → Step
kind_step n r (made k) = count (record { rect = r; color_interpolation = color_interpolation_of n; own = text_of n aid_result; kind = k })
kind_step n r no_primitive = pass
kind_step n r (element.refused why) = refused why

-- the region is tried before the kind. The document: a subregion that is no rectangle disables its primitive alone (not certain). The crate: the chain ends
-- before that child, whose tag may be an unsupported one, and the children before it stay. That is no refusal, whatever the units are
abbrev pub region_step : Frame → Node → List Node → Option Rect → Step
region_step frame n children (Some r) = kind_step n r (kind_of frame n children)
region_step frame n children None = end

-- a node and the nodes after it; a node of depth 1 belongs to the child before it, and one without a tag, which the crate does not have below a filter, is
-- passed over before all else
unfoldable pub step_of : Frame → Node → List Node → Step
step_of frame n rest =
    cond (eqb n.depth 1) pass
    (cond (eqb n.tag 0) pass
    (region_step frame n (child_nodes rest) (region_of frame n)))

-- the children that count, or the first refusal in child order
pub data Chain : Type 0 where
  refused : Refusal → Chain
  kept : List Child → Chain

abbrev pub keep_first : Child → Chain → Chain
keep_first c (refused why) = refused why
keep_first c (kept cs) = kept (c ∷ cs)

abbrev pub follow : Step → Chain → Chain
follow pass rest = rest
follow end rest = kept []
follow (refused why) rest = refused why
follow (count c) rest = keep_first c rest

unfoldable pub chain : Frame → List Node → Chain
chain frame [] = kept []
chain frame (n ∷ rest) = follow (step_of frame n rest) (chain frame rest)
