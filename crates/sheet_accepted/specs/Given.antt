-- An accepted sheet is read as it is given. The readers of a sheet (`svgtree`) take any bytes: a number that is not finite reads as +0, and so does an item
-- of a typed list that is outside the grammar or the limits; a text is cut at 255 bytes, a byte past the end reads as 0, and a node's offset is read modulo
-- 65,536. Of a sheet past refusals 1 to 4, 10 and 11 none of these substitutes is used.
-- Definitions only.
use Rattle.std.specs.Prelude.{ℕ, ◌*◌, ◌<◌, ◌≡◌, List, [], ◌++◌, map, T, length, Float, None, Option, Some}
use Rattle.std.specs.Float.Ieee.Scale.{finite}
use Rattle.bits.specs.Bytes.{bytes_from}
use Rattle.num.specs.Narrowed.{narrowed, or_zero, as_f32}
use Rattle.num.specs.Numbers.{Each}
use Rattle.number_list.specs.Outcome.{passed, text_outcome}
use Rattle.sheet_fields.specs.Fields.{kind_typed, size_number, size_length, size_color, size_tries}
use Rattle.svgtree.specs.Values.{Value, absent, text_value, number_value, numbers_value, length_value, color_value, tries_value, Attribute, Node, Bounds, Header, Sheet}
use Rattle.svgtree.specs.Parse.{attribute_kind_at, attribute_length_at, value_place, attribute_at, places_of, count_of, pair_offset, offset_of, sheet_of}

-- ---- numbers

-- an f32 is read as it is: it is finite
abbrev pub GivenSingle : Float → Type 0
GivenSingle x = or_zero x ≡ x

-- an f64 is finite, and is read as the f32 nearest to it, which is finite too
abbrev pub GivenDouble : Float → Type 0
GivenDouble x = T (finite x) × (as_f32 x ≡ narrowed x)

abbrev pub GivenTry : Option Float → Type 0
GivenTry None = Unit {0}
GivenTry (Some x) = GivenDouble x

-- the numbers of an attribute, or of a length of the header
abbrev pub GivenValue : Value → Type 0
GivenValue absent = Unit {0}
GivenValue (text_value t) = Unit {0}
GivenValue (number_value x) = GivenSingle x
GivenValue (numbers_value xs) = map or_zero xs ≡ xs
GivenValue (length_value u x) = GivenDouble x
GivenValue (color_value k) = Unit {0}
GivenValue (tries_value t) = GivenTry t.first × GivenTry t.second × GivenTry t.third

abbrev pub GivenAttribute : Attribute → Type 0
GivenAttribute a = GivenValue a.value

pub record GivenNode (n : Node) : Type 0 where
  pub font_size : GivenSingle n.font_size
  pub attributes : Each GivenAttribute n.attributes

abbrev pub GivenBox : Option Bounds → Type 0
GivenBox None = Unit {0}
GivenBox (Some b) = GivenSingle b.x × GivenSingle b.y × GivenSingle b.width × GivenSingle b.height

pub record GivenHeader (h : Header) : Type 0 where
  pub box : GivenBox h.box
  pub view_box_width : GivenSingle h.view_box_width
  pub view_box_height : GivenSingle h.view_box_height
  pub dpi : GivenSingle h.dpi
  pub font_size : GivenSingle h.font_size
  pub x : GivenValue h.x
  pub y : GivenValue h.y
  pub width : GivenValue h.width
  pub height : GivenValue h.height

pub record GivenNumbers (sheet : Sheet) : Type 0 where
  pub header : GivenHeader sheet.header
  pub nodes : Each GivenNode sheet.nodes

-- ---- bytes

-- a value and the bytes that its attribute has for it: a text is all of them, and what is read of another kind, unless it is typed, takes all of them
abbrev pub Whole : Value → List ℕ → Type 0
Whole absent bytes = bytes ≡ []
Whole (text_value t) bytes = t ≡ bytes
Whole (number_value x) bytes = length bytes ≡ size_number
Whole (numbers_value xs) bytes = length bytes ≡ length xs * size_number
Whole (length_value u x) bytes = length bytes ≡ size_length
Whole (color_value k) bytes = length bytes ≡ size_color
Whole (tries_value t) bytes = length bytes ≡ size_tries

-- a typed list and its text: the numbers that are read are those of the text's outcome, so the text is within the grammar and the limits
pub record WholeText (v : Value) (text : List ℕ) : Type 0 where
  pub listed : List Float
  pub outcome : text_outcome text ≡ passed listed
  pub value : v ≡ numbers_value listed

-- the attribute at a place, with as many bytes as its length says
pub record WholeAt (s : List ℕ) (at : ℕ) : Type 0 where
  pub typed : attribute_kind_at s at ≡ kind_typed → WholeText (attribute_at s at).value (bytes_from s (value_place at) (attribute_length_at s at))
  pub other : (attribute_kind_at s at ≡ kind_typed → ⊥) → Whole (attribute_at s at).value (bytes_from s (value_place at) (attribute_length_at s at))

-- ---- the sheet

pub record ReadAsGiven (s : List ℕ) : Type 0 where
  -- each node is read at the whole offset of its pair
  pub offsets : (i : ℕ) → i < count_of s → offset_of s i ≡ pair_offset s i
  -- each attribute of each node is read whole
  pub attributes : (i : ℕ) → i < count_of s → Each (WholeAt s) (places_of s (offset_of s i))
  -- nothing past the end is read: whatever bytes come behind it, the values are the same
  pub end : (more : List ℕ) → sheet_of (s ++ more) ≡ sheet_of s
  -- each number of the header and of each node is read as it is given
  pub numbers : GivenNumbers (sheet_of s)
