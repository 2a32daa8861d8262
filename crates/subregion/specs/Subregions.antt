-- The filter primitive subregion of a child, and the scale of a child's numbers: document 01, "parser/filter.rs", and for objectBoundingBox units document
-- 02, [4]. Definitions only.
use Rattle.std.specs.Prelude.{ℕ, Float, None, Option, Some}
use Rattle.std.specs.Float.{binary32}
use Rattle.std.specs.Float.Ieee.{add, mul}
use Rattle.num.specs.Constants.{one}
use Rattle.geom.specs.declared.Rect.{Rect}
use Rattle.geom.specs.declared.Size.{Size}
use Rattle.geom.specs.Geometry.{of_size, width_of, height_of, size_of}
use Rattle.names.specs.Ids.{aid_x, aid_y, aid_width, aid_height}
use Rattle.svgtree.specs.Values.{Node}
use Rattle.svgtree.specs.Readers.{or_default}
use Rattle.svgtree.specs.declared.Units.{Units}
use Rattle.svgtree.specs.declared.Units.TheVariants as units
use Rattle.units.specs.Lengths.{try_convert_length}
use Rattle.region.specs.declared.Frame.{Frame}

-- ---- the rectangle of a child

-- the child's x, y, width or height as a number in primitiveUnits, if it is there and can be read: n percent is n/100 in objectBoundingBox units, and every
-- other unit is converted as in user space
abbrev pub given_number : Frame → Node → (aid : ℕ) → Option Float
given_number frame n aid = try_convert_length n aid frame.units frame.state

-- the rectangle of these four, if it exists: "an absent one is the filter region's own". The region's width is right - left, so a rectangle of the
-- region's own four numbers is made anew, and its far edges may differ from the region's by a rounding
unfoldable pub rect_within : (region : Rect) → (x y width height : Option Float) → Option Rect
rect_within region x y width height =
    of_size (or_default x region.left) (or_default y region.top) (or_default width (width_of region)) (or_default height (height_of region))

-- ---- userSpaceOnUse: the numbers as they are given

unfoldable pub user_space_region : Frame → Node → Option Rect
user_space_region frame n =
    rect_within frame.region (given_number frame n aid_x) (given_number frame n aid_y) (given_number frame n aid_width) (given_number frame n aid_height)

-- ---- objectBoundingBox: the numbers are fractions of the object's bounding box

-- "a given x is x × box width + box x", and y by the box's height and y. The product is rounded, and then the sum
abbrev pub corner_in_box : (fraction : Option Float) → (box_side box_corner : Float) → Option Float
corner_in_box (Some v) box_side box_corner = Some (add binary32 (mul binary32 v box_side) box_corner)
corner_in_box None box_side box_corner = None

-- "a given width is width × box width", and the height by the box's height
abbrev pub side_in_box : (fraction : Option Float) → (box_side : Float) → Option Float
side_in_box (Some v) box_side = Some (mul binary32 v box_side)
side_in_box None box_side = None

-- whatever the child's tag is, as in the document. The crate: so for feFlood alone, with 0, 0, 1, 1 for what is absent; for every other kind it places the filter
-- region in the child's rectangle, and it panics where placing makes no rectangle
unfoldable pub bbox_region : Frame → Node → (box : Rect) → Option Rect
bbox_region frame n box =
    rect_within frame.region
    (corner_in_box (given_number frame n aid_x) (width_of box) box.left)
    (corner_in_box (given_number frame n aid_y) (height_of box) box.top)
    (side_in_box (given_number frame n aid_width) (width_of box))
    (side_in_box (given_number frame n aid_height) (height_of box))

-- ---- by primitiveUnits. Box units without a box have no rectangle; but then no child is converted at all (number 8)

abbrev pub region_by : Units → (bbox : Option Rect) → Frame → Node → Option Rect
region_by units.UserSpaceOnUse bbox frame n = user_space_region frame n
region_by units.ObjectBoundingBox (Some box) frame n = bbox_region frame n box
region_by units.ObjectBoundingBox None frame n = None

unfoldable pub region_of : Frame → Node → Option Rect
region_of frame n = region_by frame.units frame.bbox frame n

-- ---- what a child's numbers are multiplied by: the size of the object's bounding box in objectBoundingBox units, and else 1 by 1

abbrev pub unscaled : Size
unscaled = record { width = one; height = one }

-- without a box no child is converted (number 8)
abbrev pub size_in : Option Rect → Size
size_in (Some b) = size_of b
size_in None = unscaled

abbrev pub scale_in : Units → Option Rect → Size
scale_in units.UserSpaceOnUse bbox = unscaled
scale_in units.ObjectBoundingBox bbox = size_in bbox

unfoldable pub scale_of : Frame → Size
scale_of frame = scale_in frame.units frame.bbox
