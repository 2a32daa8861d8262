-- What the code's four numbers of a child stand for. Definitions only.
use Rattle.std.specs.Prelude.{Option, Float}
use Rattle.geom.specs.declared.Rect.{Rect}
use Rattle.geom.specs.Geometry.{width_of, height_of}
use Rattle.names.specs.Ids.{aid_x, aid_y, aid_width, aid_height}
use Rattle.svgtree.specs.Values.{Node}
use Rattle.region.specs.declared.Frame.{Frame}
use Rattle.svgtree.specs.declared.sides.Sides.{Sides}
use Rattle.subregion.specs.Subregions.{given_number, rect_within, corner_in_box, side_in_box}

-- as they stand in the sheet, in primitiveUnits
abbrev pub given_in : Frame → Node → Sides (Option Float)
given_in frame n = record { x = given_number frame n aid_x; y = given_number frame n aid_y; width = given_number frame n aid_width; height = given_number frame n aid_height }

-- in user space, where they are fractions of a box
abbrev pub given_in_box : Sides (Option Float) → (box : Rect) → Sides (Option Float)
given_in_box g box =
    record {
      x = corner_in_box g.x (width_of box) box.left;
      y = corner_in_box g.y (height_of box) box.top;
      width = side_in_box g.width (width_of box);
      height = side_in_box g.height (height_of box);
    }

-- their rectangle
abbrev pub rect_of_given : (region : Rect) → Sides (Option Float) → Option Rect
rect_of_given region g = rect_within region g.x g.y g.width g.height
