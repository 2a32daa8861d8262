-- Refusal 2, "bytes not in the layout": document 01, "The sheet and the list", a rule a line. Definitions only.
use Rattle.std.specs.Prelude.{ℕ, ◌+◌, ◌/◌, ◌%◌, List, [], ◌∷◌, map, Bool, true, false, cond, not, ◌&&◌, ◌||◌, get_or, length, eqb, leb}
use Rattle.bits.specs.Bytes.{bytes_from, same}
use Rattle.bits.specs.Utf8.{utf8}
use Rattle.bits.specs.Words.{word}
use Rattle.names.specs.Ids.{aid_lighting_color}
use Rattle.names.specs.Kinds.{kind_allowed, tag_ok}
use Rattle.sheet_fields.specs.Fields.{header_filter_units, header_primitive_units, header_box_present, header_zero, header_box_x, header_box_size, header_x, header_y, header_width, header_height}
use Rattle.sheet_fields.specs.Fields.{node_attributes, kind_unreadable, kind_text, kind_number, kind_numbers, kind_length, kind_color, kind_tries, kind_typed}
use Rattle.sheet_fields.specs.Fields.{size_text_most, size_number, size_numbers_most, size_length, size_color, size_tries, size_typed_most, marked_number, marked_number_size, tries_second, tries_third}
use Rattle.sheet_fields.specs.Fields.{space_absent, unit_percent, unit_absent}
use Rattle.svgtree.specs.Parse.{count_of, pair_place}
use Rattle.sheet_layout.specs.Tests.{rising, sum}
use Rattle.field_tests.specs.Tests.{all, zeros, marked_ok}
use Rattle.sheet_layout.specs.Records.{Entry, entry_size, NodeRecord, node_records_from}

-- "Units: 0 none .. 9 percent; in the header 255 with zero bits is absent"
unfoldable pub header_length_ok : List ℕ → ℕ → Bool
header_length_ok s at = leb (get_or s at 0) unit_percent || (eqb (get_or s at 0) unit_absent && zeros (bytes_from s (at + marked_number) marked_number_size))

-- "36 four lengths x, y, width, height, each a unit byte and an f64"
unfoldable pub header_lengths_ok : List ℕ → Bool
header_lengths_ok s =
    header_length_ok s header_x
    && header_length_ok s header_y
    && header_length_ok s header_width
    && header_length_ok s header_height

-- "byte 0 filterUnits, 1 primitiveUnits (0 .., 1 .., 2 absent ..); 2 box present (0, 1); 3 zero; 4 box .. (zero bits if absent)"
unfoldable pub header_ok : List ℕ → Bool
header_ok s =
    leb (get_or s header_filter_units 0) space_absent
    && leb (get_or s header_primitive_units 0) space_absent
    && marked_ok (get_or s header_box_present 0) (bytes_from s header_box_x header_box_size)
    && eqb (get_or s header_zero 0) 0
    && header_lengths_ok s

-- "Records touch": each begins where the one before it ends, the first at `at`, and the last ends at `end`
unfoldable pub touch : (at end : ℕ) → List NodeRecord → Bool
touch at end [] = eqb at end
touch at end (r ∷ rest) = eqb r.offset at && touch (at + r.size) end rest

-- "each 1 or 0 and an f64 (zero bits after 0 ..)"
unfoldable pub try_ok : List ℕ → ℕ → Bool
try_ok b at = marked_ok (get_or b at 0) (bytes_from b (at + marked_number) marked_number_size)

-- "exactly three tries, .. no 1 after a 0"
unfoldable pub tries_ok : List ℕ → Bool
tries_ok b =
    try_ok b 0
    && try_ok b tries_second
    && try_ok b tries_third
    && leb (get_or b tries_second 0) (get_or b 0 0)
    && leb (get_or b tries_third 0) (get_or b tries_second 0)

-- the bytes of a value of a kind: "0 unreadable, empty ..; 1 text, UTF-8, to 255 bytes; 2 f32; 3 f32 list, to 1,024; 4 length; 5 colour (red,
-- green, blue, alpha); 6 exactly three tries"; and document 02, [2]: "kind 7: text of up to 4,096 bytes", UTF-8 or not. The crate limits neither texts
-- nor lists
unfoldable pub bytes_ok : ℕ → List ℕ → Bool
bytes_ok kind b =
    cond (eqb kind kind_unreadable) (eqb (length b) 0)
    (cond (eqb kind kind_text) (leb (length b) size_text_most && utf8 b)
    (cond (eqb kind kind_number) (eqb (length b) size_number)
    (cond (eqb kind kind_numbers) (eqb (length b % size_number) 0 && leb (length b / size_number) size_numbers_most)
    (cond (eqb kind kind_length) (eqb (length b) size_length && leb (get_or b 0 0) unit_percent)
    (cond (eqb kind kind_color) (eqb (length b) size_color)
    (cond (eqb kind kind_tries) (eqb (length b) size_tries && tries_ok b)
    (cond (eqb kind kind_typed) (leb (length b) size_typed_most) false)))))))

-- "lighting-color is kind 5, kind 0 or the text `currentColor`"
unfoldable pub word_ok : (id kind : ℕ) → List ℕ → Bool
word_ok id kind b = not (eqb id aid_lighting_color) || not (eqb kind kind_text) || same b (word "currentColor")

-- an attribute of a node of that depth: its zero byte, the kind that its id asks, and its value
unfoldable pub entry_ok : ℕ → Entry → Bool
entry_ok depth e =
    eqb e.zero 0
    && kind_allowed depth e.id e.kind
    && bytes_ok e.kind e.bytes
    && word_ok e.id e.kind e.bytes

-- "attributes by strictly rising id", which fill the record
unfoldable pub entries_ok : (depth size : ℕ) → List Entry → Bool
entries_ok depth size es =
    all (entry_ok depth) es
    && rising (map (λ e. e.id) es)
    && eqb (node_attributes + sum (map entry_size es)) size

-- "Node: one byte each of depth (0 .., 1 ..), tag (0 none, else 1 + place in `EId` ..), attribute count (0 for tag 0) and zero; then font size
-- f32; attributes"
unfoldable pub node_head_ok : (depth tag count zero_byte : ℕ) → Bool
node_head_ok depth tag count zero_byte =
    leb depth 1
    && tag_ok tag
    && (not (eqb tag 0) || eqb count 0)
    && eqb zero_byte 0

unfoldable pub node_record_ok : NodeRecord → Bool
node_record_ok r = node_head_ok r.depth r.tag r.count r.zero && entries_ok r.depth r.size r.entries

-- whether the last node of depth 0 has a tag, after this node
abbrev pub tagged_after : Bool → NodeRecord → Bool
tagged_after tagged r = cond (eqb r.depth 0) (not (eqb r.tag 0)) tagged

-- "1 child of the last such, which then has a tag; the first node is 0": before the first node there is none that has
unfoldable pub depths_ok : Bool → List NodeRecord → Bool
depths_ok tagged [] = true
depths_ok tagged (r ∷ rest) = (eqb r.depth 0 || tagged) && depths_ok (tagged_after tagged r) rest

-- the sheet: "Records touch: the first begins after the pairs, the last ends the sheet"
unfoldable pub layout_ok : List ℕ → Bool
layout_ok s =
    header_ok s
    && touch (pair_place (count_of s)) (length s) (node_records_from s 0 (count_of s))
    && all node_record_ok (node_records_from s 0 (count_of s))
    && depths_ok false (node_records_from s 0 (count_of s))
