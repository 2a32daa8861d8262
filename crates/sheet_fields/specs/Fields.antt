-- The layout of a sheet in numbers: document 01, "The sheet and the list". Where its fields stand, how many bytes they have, and what stands for
-- a kind and for a unit. Definitions only.
use Rattle.std.specs.Prelude.{ℕ}

-- "byte 0 filterUnits, 1 primitiveUnits ..; 2 box present (0, 1); 3 zero; 4 box x, y, width, height, f32 ..; 20 view box width, height; 28 dpi;
-- 32 font size; 36 four lengths x, y, width, height, each a unit byte and an f64; 72 node count, u16; 74 the pairs of offset and length, u32
-- each": offsets from the start of the sheet
abbrev pub header_filter_units : ℕ
header_filter_units = 0

abbrev pub header_primitive_units : ℕ
header_primitive_units = 1

abbrev pub header_box_present : ℕ
header_box_present = 2

abbrev pub header_zero : ℕ
header_zero = 3

abbrev pub header_box_x : ℕ
header_box_x = 4

abbrev pub header_box_size : ℕ
header_box_size = 16

abbrev pub header_view_box_width : ℕ
header_view_box_width = 20

abbrev pub header_view_box_height : ℕ
header_view_box_height = 24

abbrev pub header_dpi : ℕ
header_dpi = 28

abbrev pub header_font_size : ℕ
header_font_size = 32

abbrev pub header_x : ℕ
header_x = 36

abbrev pub header_y : ℕ
header_y = 45

abbrev pub header_width : ℕ
header_width = 54

abbrev pub header_height : ℕ
header_height = 63

abbrev pub header_node_count : ℕ
header_node_count = 72

abbrev pub header_pairs : ℕ
header_pairs = 74

-- "the pairs of offset and length, u32 each"; a pair begins with the offset
abbrev pub pair_length : ℕ
pair_length = 4

abbrev pub pair_size : ℕ
pair_size = 8

-- "Node: one byte each of depth .., tag .., attribute count .. and zero; then font size f32; attributes"; a node begins with its depth
abbrev pub node_tag : ℕ
node_tag = 1

abbrev pub node_attribute_count : ℕ
node_attribute_count = 2

abbrev pub node_zero : ℕ
node_zero = 3

abbrev pub node_font_size : ℕ
node_font_size = 4

abbrev pub node_attributes : ℕ
node_attributes = 8

-- "Attribute: id u16 .., kind u8, zero u8, length u16, value"; an attribute begins with its id
abbrev pub attribute_kind : ℕ
attribute_kind = 2

abbrev pub attribute_zero : ℕ
attribute_zero = 3

abbrev pub attribute_length : ℕ
attribute_length = 4

abbrev pub attribute_value : ℕ
attribute_value = 6

-- "Kinds: 0 unreadable, empty, read as absent; 1 text, UTF-8, to 255 bytes; 2 f32; 3 f32 list, to 1,024; 4 length; 5 colour (red, green, blue,
-- alpha); 6 exactly three tries, each 1 or 0 and an f64"
abbrev pub kind_unreadable : ℕ
kind_unreadable = 0

abbrev pub kind_text : ℕ
kind_text = 1

abbrev pub kind_number : ℕ
kind_number = 2

abbrev pub kind_numbers : ℕ
kind_numbers = 3

abbrev pub kind_length : ℕ
kind_length = 4

abbrev pub kind_color : ℕ
kind_color = 5

abbrev pub kind_tries : ℕ
kind_tries = 6

-- document 02, [2]: a list of numbers as it is typed
abbrev pub kind_typed : ℕ
kind_typed = 7

-- the bytes of a value of each kind; of a text and of a typed list at most so many, and of a list at most so many numbers
abbrev pub size_text_most : ℕ
size_text_most = 255

abbrev pub size_number : ℕ
size_number = 4

abbrev pub size_numbers_most : ℕ
size_numbers_most = 1024

abbrev pub size_length : ℕ
size_length = 9

abbrev pub size_color : ℕ
size_color = 4

abbrev pub size_tries : ℕ
size_tries = 27

abbrev pub size_typed_most : ℕ
size_typed_most = 4096

-- a length begins with its unit byte and a try with its mark; the f64 stands behind it
abbrev pub marked_number : ℕ
marked_number = 1

abbrev pub marked_number_size : ℕ
marked_number_size = 8

-- the tries of nine bytes each; the first comes first
abbrev pub tries_second : ℕ
tries_second = 9

abbrev pub tries_third : ℕ
tries_third = 18

-- the space that filterUnits and primitiveUnits name: "(0 userSpaceOnUse, 1 objectBoundingBox, 2 absent ..)"
abbrev pub space_user_space_on_use : ℕ
space_user_space_on_use = 0

abbrev pub space_object_bounding_box : ℕ
space_object_bounding_box = 1

abbrev pub space_absent : ℕ
space_absent = 2

abbrev pub unit_em : ℕ
unit_em = 1

abbrev pub unit_ex : ℕ
unit_ex = 2

abbrev pub unit_px : ℕ
unit_px = 3

abbrev pub unit_in : ℕ
unit_in = 4

abbrev pub unit_cm : ℕ
unit_cm = 5

abbrev pub unit_mm : ℕ
unit_mm = 6

abbrev pub unit_pt : ℕ
unit_pt = 7

abbrev pub unit_pc : ℕ
unit_pc = 8

abbrev pub unit_percent : ℕ
unit_percent = 9

abbrev pub unit_absent : ℕ
unit_absent = 255
