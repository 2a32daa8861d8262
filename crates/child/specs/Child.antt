-- A child that counts, as a value: what the sheet says of one primitive, before it is named. Definitions only.
use Rattle.std.specs.Prelude.{Option}
use Rattle.geom.specs.declared.Rect.{Rect}
use Rattle.tree.specs.Input.{Name}
use Rattle.tree.specs.Kinds.{Kind}
use Rattle.tree.specs.declared.ColorInterpolation.{ColorInterpolation}
use Rattle.svgtree.specs.Values.{Node}
use Rattle.svgtree.specs.Readers.{text_of}
use Rattle.names.specs.Ids.{aid_in}

-- its subregion, its color-interpolation-filters, its own `result` if it has one, and its kind with each input as it is read: a text, or absent
pub record Child : Type 0 where
  pub rect : Rect
  pub color_interpolation : ColorInterpolation
  pub own : Option Name
  pub kind : Kind (Option Name)

-- the `in` of a node
abbrev pub in_of : Node → Option Name
in_of n = text_of n aid_in
