-- A length as a number: document 01, "parser/units.rs". Each product and each quotient is an f32 operation, rounded once. Definitions only.
use Rattle.std.specs.Prelude.{ℕ, cond, ◌||◌, eqb, Float, None, Option, Some}
use Rattle.std.specs.Float.{binary32}
use Rattle.std.specs.Float.Ieee.{mul, div, of_bits}
use Rattle.geom.specs.declared.Size.{Size}
use Rattle.names.specs.Ids.{aid_y, aid_height}
use Rattle.svgtree.specs.declared.LengthUnit.{LengthUnit}
use Rattle.svgtree.specs.declared.LengthUnit.TheVariants as unit
use Rattle.svgtree.specs.declared.Length.{Length}
use Rattle.svgtree.specs.Values.{Node}
use Rattle.svgtree.specs.Readers.{length_of, font_size_of}
use Rattle.svgtree.specs.declared.Units.{Units}
use Rattle.svgtree.specs.declared.Units.TheVariants as units
use Rattle.units.specs.declared.State.{State}
use Rattle.num.specs.Constants.{two}

-- the numbers of the formulas, by their f32 bits: 2.54, 25.4, 72, 6 and 100
abbrev pub cm_per_inch : Float
cm_per_inch = of_bits binary32 0x4022_8f5c

abbrev pub mm_per_inch : Float
mm_per_inch = of_bits binary32 0x41cb_3333

abbrev pub pt_per_inch : Float
pt_per_inch = of_bits binary32 0x4290_0000

abbrev pub pc_per_inch : Float
pc_per_inch = of_bits binary32 0x40c0_0000

abbrev pub hundred : Float
hundred = of_bits binary32 0x42c8_0000

-- "the base being view box width (x, width, dx) or height": the height for y and height. No other attribute is converted (the crate takes
-- the view box's diagonal for others).
abbrev pub percent_base : ℕ → Size → Float
percent_base aid view_box = cond (eqb aid aid_y || eqb aid aid_height) view_box.height view_box.width

-- "A percent in objectBoundingBox units is n/100; else base × n / 100"
abbrev pub percent_of : Units → (n base : Float) → Float
percent_of units.ObjectBoundingBox n base = div binary32 n hundred
percent_of units.UserSpaceOnUse n base = div binary32 (mul binary32 base n) hundred

-- n of a unit, with the resolution, the font size and what n percent is. "1 in at 96 dpi is 96". The document (by CSS): an inch is 96 px, and an ex is the
-- x-height of the font. The crate: an inch is as many px as the resolution says, cm, mm, pt and pc go by the inch, and an ex is half an em.
abbrev pub of_unit : LengthUnit → (n dpi font_size percentage : Float) → Float
of_unit unit.None n dpi font_size percentage = n
of_unit unit.Em n dpi font_size percentage = mul binary32 n font_size
of_unit unit.Ex n dpi font_size percentage = div binary32 (mul binary32 n font_size) two
of_unit unit.Px n dpi font_size percentage = n
of_unit unit.In n dpi font_size percentage = mul binary32 n dpi
of_unit unit.Cm n dpi font_size percentage = div binary32 (mul binary32 n dpi) cm_per_inch
of_unit unit.Mm n dpi font_size percentage = div binary32 (mul binary32 n dpi) mm_per_inch
of_unit unit.Pt n dpi font_size percentage = div binary32 (mul binary32 n dpi) pt_per_inch
of_unit unit.Pc n dpi font_size percentage = div binary32 (mul binary32 n dpi) pc_per_inch
of_unit unit.Percent n dpi font_size percentage = percentage

-- the number that a length under an attribute stands for. Its own number has been narrowed to f32 already.
unfoldable pub convert_length : Length → (aid : ℕ) → Units → State → (font_size : Float) → Float
convert_length length aid object_units state font_size =
    of_unit length.unit length.number state.dpi font_size (percent_of object_units length.number (percent_base aid state.view_box))

-- a length under an attribute of a node, absent or converted with the node's font size
abbrev pub converted : Option Length → (aid : ℕ) → Units → State → (font_size : Float) → Option Float
converted (Some length) aid object_units state font_size = Some (convert_length length aid object_units state font_size)
converted None aid object_units state font_size = None

abbrev pub try_convert_length : Node → (aid : ℕ) → Units → State → Option Float
try_convert_length node aid object_units state = converted (length_of node aid) aid object_units state (font_size_of node)

-- ---- attributes of the filter element, each with its default

abbrev pub convert_units : Option Units → Units → Units
convert_units (Some given) def = given
convert_units None def = def

abbrev pub resolve_number : Option Length → (aid : ℕ) → Units → State → (font_size : Float) → (def : Length) → Float
resolve_number (Some length) aid object_units state font_size def = convert_length length aid object_units state font_size
resolve_number None aid object_units state font_size def = convert_length def aid object_units state font_size

-- n percent as a length
abbrev pub percent : Float → Length
percent n = record { number = n; unit = unit.Percent }
