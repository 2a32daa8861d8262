-- A child that gives none of x, y, width and height. Definitions only.
use Rattle.std.specs.Prelude.{◌≡◌, None, Option}
use Rattle.geom.specs.declared.Rect.{Rect}
use Rattle.geom.specs.Geometry.{of_size, width_of, height_of}
use Rattle.names.specs.Ids.{aid_x, aid_y, aid_width, aid_height}
use Rattle.svgtree.specs.Values.{Node}
use Rattle.svgtree.specs.Readers.{length_of}

-- each of the four is absent, or cannot be read
pub record NoneGiven (n : Node) : Type 0 where
  pub x : length_of n aid_x ≡ None
  pub y : length_of n aid_y ≡ None
  pub width : length_of n aid_width ≡ None
  pub height : length_of n aid_height ≡ None

-- the rectangle made from a rectangle's own x, y, width and height, if it exists
abbrev pub made_anew : Rect → Option Rect
made_anew r = of_size r.left r.top (width_of r) (height_of r)
