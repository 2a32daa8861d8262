-- What comes of a list of nodes in a frame. The two need not be of one sheet. Definitions only.
use Rattle.geom.specs.declared.Rect.{Rect}
use Rattle.std.specs.Prelude.{ℕ, Bool, true, false, cond, List, [], ◌∷◌, None, Option, Some}
use Rattle.answer.specs.Outcomes.{Outcome, refused, in_room}
use Rattle.answer.specs.declared.Refusal.TheVariants.{NoPrimitive}
use Rattle.tree.specs.List.{list_bytes}
use Rattle.svgtree.specs.Values.{Node}
use Rattle.svgtree.specs.declared.Units.{Units}
use Rattle.svgtree.specs.declared.Units.TheVariants as units
use Rattle.region.specs.declared.Frame.{Frame}
use Rattle.child.specs.Child.{Child}
use Rattle.chain.specs.Chain as chain
use Rattle.chain.specs.Chain.{Chain, kept}
use Rattle.list_primitives.specs.Primitives.{primitives}

-- whether a primitive can be placed at all: box units need a box
abbrev pub placeable : Units → Option Rect → Bool
placeable units.UserSpaceOnUse box = true
placeable units.ObjectBoundingBox (Some b) = true
placeable units.ObjectBoundingBox None = false

-- the children that count, or the first refusal in child order: "Box units for primitives without a box make none"
unfoldable pub collected : Frame → List Node → Chain
collected frame nodes = cond (placeable frame.units frame.bbox) (chain.chain frame nodes) (kept [])

-- the bytes of the list of these children
abbrev pub list_of : List Child → List ℕ
list_of children = list_bytes (primitives children)

-- "no primitive", and "output shorter than the list": `room` is the output's length
unfoldable pub fit : ℕ → List Child → Outcome (List Child)
fit room [] = refused NoPrimitive
fit room (c ∷ cs) = in_room list_of room (c ∷ cs)

-- "then the first 6 or 7 met in child order; then 8, 9"
abbrev pub of_chain : ℕ → Chain → Outcome (List Child)
of_chain room (chain.refused why) = refused why
of_chain room (kept children) = fit room children

-- what comes of the nodes, with an output of so many bytes
abbrev pub children_outcome : Frame → List Node → (room : ℕ) → Outcome (List Child)
children_outcome frame nodes room = of_chain room (collected frame nodes)
