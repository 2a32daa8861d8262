-- The filter region, and what the children are converted with: document 01, the table's numbers 5 and 6. Definitions only.
use Rattle.answer.specs.declared.Refusal.{Refusal}
use Rattle.std.specs.Prelude.{Float, Err, None, Ok, Option, Result, Some}
use Rattle.std.specs.Float.{binary32}
use Rattle.std.specs.Float.Ieee.{of_bits}
use Rattle.answer.specs.declared.Refusal.TheVariants.{NoRegion, Unrepresentable}
use Rattle.geom.specs.declared.Rect.{Rect}
use Rattle.geom.specs.Geometry.{of_size, placed}
use Rattle.names.specs.Ids.{aid_x, aid_y, aid_width, aid_height}
use Rattle.svgtree.specs.Values.{Header}
use Rattle.svgtree.specs.Readers.{box_of, view_box_width_of, view_box_height_of, dpi_of, filter_font_size_of, filter_x_of, filter_y_of, filter_width_of, filter_height_of}
use Rattle.svgtree.specs.declared.Units.{Units}
use Rattle.svgtree.specs.declared.Units.TheVariants as units
use Rattle.units.specs.declared.State.{State}
use Rattle.units.specs.Lengths.{percent, convert_units, resolve_number}
use Rattle.region.specs.declared.Frame.{Frame}
use Rattle.region.specs.declared.Side.{Side}
use Rattle.region.specs.declared.Side.TheVariants as side

-- "defaults objectBoundingBox, userSpaceOnUse"
abbrev pub filter_units_of : Header → Units
filter_units_of h = convert_units h.filter_units units.ObjectBoundingBox

abbrev pub primitive_units_of : Header → Units
primitive_units_of h = convert_units h.primitive_units units.UserSpaceOnUse

-- view box and resolution
abbrev pub state_of : Header → State
state_of h = record { view_box = record { width = view_box_width_of h; height = view_box_height_of h }; dpi = dpi_of h }

-- x, y, width and height of the filter element, with the element's own font size: "defaults −10%, −10%, 120%, 120%"

-- -10 and 120 by their f32 bits
abbrev pub minus_ten : Float
minus_ten = of_bits binary32 0xc120_0000

abbrev pub hundred_twenty : Float
hundred_twenty = of_bits binary32 0x42f0_0000

abbrev pub filter_x_in : Header → Units → State → Float
filter_x_in h filter_units state = resolve_number (filter_x_of h) aid_x filter_units state (filter_font_size_of h) (percent minus_ten)

abbrev pub filter_y_in : Header → Units → State → Float
filter_y_in h filter_units state = resolve_number (filter_y_of h) aid_y filter_units state (filter_font_size_of h) (percent minus_ten)

abbrev pub filter_width_in : Header → Units → State → Float
filter_width_in h filter_units state = resolve_number (filter_width_of h) aid_width filter_units state (filter_font_size_of h) (percent hundred_twenty)

abbrev pub filter_height_in : Header → Units → State → Float
filter_height_in h filter_units state = resolve_number (filter_height_of h) aid_height filter_units state (filter_font_size_of h) (percent hundred_twenty)

-- each of the four
abbrev pub filter_side_in : Side → Header → Units → State → Float
filter_side_in side.X h filter_units state = filter_x_in h filter_units state
filter_side_in side.Y h filter_units state = filter_y_in h filter_units state
filter_side_in side.Width h filter_units state = filter_width_in h filter_units state
filter_side_in side.Height h filter_units state = filter_height_in h filter_units state

-- the rectangle of the four, in filterUnits, if it exists
unfoldable pub filter_rect_in : Header → Units → State → Option Rect
filter_rect_in h filter_units state =
    of_size (filter_x_in h filter_units state) (filter_y_in h filter_units state) (filter_width_in h filter_units state) (filter_height_in h filter_units state)

-- what placing it in the object's bounding box gave: "a placing makes no rectangle" is a refusal; the crate panics
abbrev pub placed_in : Option Rect → Result Rect Refusal
placed_in (Some r) = Ok r
placed_in None = Err Unrepresentable

-- "no filter rectangle, or its box is missing": the box is needed where filterUnits is objectBoundingBox, and the region is then the rectangle
-- placed in it
abbrev pub region_in : Units → (filter_rect box : Option Rect) → Result Rect Refusal
region_in filter_units None box = Err NoRegion
region_in units.UserSpaceOnUse (Some r) box = Ok r
region_in units.ObjectBoundingBox (Some r) None = Err NoRegion
region_in units.ObjectBoundingBox (Some r) (Some b) = placed_in (placed r b)

unfoldable pub filter_region_of : Header → Result Rect Refusal
filter_region_of h = region_in (filter_units_of h) (filter_rect_in h (filter_units_of h) (state_of h)) (box_of h)

-- what the children are converted with, once there is a filter region
abbrev pub frame_of : Header → Rect → Frame
frame_of h region = record { units = primitive_units_of h; region = region; bbox = box_of h; state = state_of h }
