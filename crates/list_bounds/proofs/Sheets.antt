-- The numbers of a sheet's lists, four bytes each, take at most twice the bytes that the sheet has: a typed number may have two bytes there. Node records
-- touch, and attributes fill them. Assumes nothing.
use Prim.Native.Nat.{ℕ, zero, suc, ◌+◌, ◌*◌, ◌/◌, ◌≤◌}
use native.Mathlib.Omega.{arith}
use mathlib.Core.Path.{◌≡◌}
use mathlib.Core.Bool.{Bool, true, false, cond, ◌&&◌}
use mathlib.Core.List.{List, [], ◌∷◌, map}
use lib.Dec.{T, eqb}
use lib.ListN.{length}
use lib.Ieee.Fits.{and_l, and_r}
use lib.Ieee.Bits.{is_true}
use borrow.Author.Tests.{eqb-true}
use Rattle.bits.specs.Bytes.{bytes_from}
use Rattle.bits.proofs.Runs.{length-bytes_from}
use Rattle.number_list.specs.Outcome.{typed_numbers}
use Rattle.sheet_fields.specs.Fields.{kind_text, kind_number, kind_numbers, kind_length, kind_color, kind_tries, kind_typed, size_number}
use Rattle.svgtree.specs.Values.{Value, absent, text_value, number_value, numbers_value, length_value, color_value, tries_value, Attribute, Node}
use Rattle.svgtree.specs.Parse.{single, singles_from, length_at, color_at, tried_at, value_at, attribute_kind_at, attribute_length_at, value_place, attribute_at, places_of, node_from, count_of, pair_place, offset_of, node_at, nodes_from}
use Rattle.sheet_layout.specs.Tests.{sum}
use Rattle.field_tests.specs.Tests.{all}
use Rattle.sheet_layout.specs.Records.{entry_at, entry_size, NodeRecord, node_record_at, node_records_from}
use Rattle.sheet_layout.specs.Layout.{node_record_ok, header_ok, touch, depths_ok, layout_ok}
use Rattle.sheet_layout.proofs.Offsets.{record_filled, records_ok}
use Rattle.sheet_accepted.proofs.Layouts.{singles_length}
use Rattle.list_bounds.proofs.Words.{typed_few}

-- four bytes for each number of a list, typed or not
abbrev pub value_numbers : Value → ℕ
value_numbers absent = 0
value_numbers (text_value t) = 0
value_numbers (number_value x) = 0
value_numbers (numbers_value xs) = 4 * length xs
value_numbers (length_value u x) = 0
value_numbers (color_value k) = 0
value_numbers (tries_value t) = 0

abbrev pub attributes_numbers : List Attribute → ℕ
attributes_numbers [] = 0
attributes_numbers (a ∷ as') = value_numbers a.value + attributes_numbers as'

abbrev pub node_numbers : Node → ℕ
node_numbers n = attributes_numbers n.attributes

abbrev pub nodes_numbers : List Node → ℕ
nodes_numbers [] = 0
nodes_numbers (n ∷ ns) = node_numbers n + nodes_numbers ns

-- ---- a value, and the attributes of a node

module _ (s : List ℕ) where
  -- whichever kind a value has
  by_kind : (at len : ℕ) (text : List ℕ) (t n ns l c tr ty : Bool)
      → value_numbers (cond t (text_value text) (cond n (number_value (single s at)) (cond ns (numbers_value (singles_from s at (len / size_number))) (cond l (length_at s at) (cond c (color_value (color_at s at)) (cond tr (tries_value (tried_at s at)) (cond ty (numbers_value (typed_numbers (bytes_from s at len))) absent))))))) ≤ 2 * len + 2
  by_kind at len text true n ns l c tr ty = omega arith
  by_kind at len text false true ns l c tr ty = omega arith
  by_kind at len text false false true l c tr ty = omega (arith, singles_length s at (len / size_number))
  by_kind at len text false false false true c tr ty = omega arith
  by_kind at len text false false false false true tr ty = omega arith
  by_kind at len text false false false false false true ty = omega arith
  by_kind at len text false false false false false false true = omega (arith, typed_few (bytes_from s at len), length-bytes_from s at len)
  by_kind at len text false false false false false false false = omega arith

  value_long : (kind at len : ℕ) → value_numbers (value_at s kind at len) ≤ 2 * len + 2
  unfolding value_at
  value_long kind at len =
      by_kind at len _ (eqb kind kind_text) (eqb kind kind_number) (eqb kind kind_numbers) (eqb kind kind_length) (eqb kind kind_color) (eqb kind kind_tries) (eqb kind kind_typed)

  -- six bytes stand before a value
  attribute_long : (at : ℕ) → value_numbers (attribute_at s at).value ≤ 2 * entry_size (entry_at s at)
  unfolding attribute_at entry_at
  attribute_long at =
      omega (arith, value_long (attribute_kind_at s at) (value_place at) (attribute_length_at s at), length-bytes_from s (value_place at) (attribute_length_at s at))

  attributes_long : (ps : List ℕ) → attributes_numbers (map (attribute_at s) ps) ≤ 2 * sum (map entry_size (map (entry_at s) ps))
  unfolding sum
  attributes_long [] = omega arith
  attributes_long (p ∷ ps) = omega (arith, attribute_long p, attributes_long ps)

  -- ---- a node: its attributes fill its record

  node_long : (i : ℕ) → T (node_record_ok (node_record_at s i)) → node_numbers (node_at s i) ≤ 2 * (node_record_at s i).size
  unfolding node_record_at node_from
  node_long i h = omega (arith, attributes_long (places_of s (offset_of s i)), record_filled (node_record_at s i) h)

  -- ---- the nodes: their records touch, and the last ends the sheet

  sizes_of : List NodeRecord → ℕ
  sizes_of [] = 0
  sizes_of (r ∷ rs) = r.size + sizes_of rs

  nodes_long : (i n : ℕ) → T (all node_record_ok (node_records_from s i n)) → nodes_numbers (nodes_from s i n) ≤ 2 * sizes_of (node_records_from s i n)
  unfolding all node_records_from nodes_from sizes_of
  nodes_long i zero h = omega arith
  nodes_long i (suc n) h =
      let ok = node_record_ok (node_record_at s i) in
      let rest = all node_record_ok (node_records_from s (i + 1) n) in
      omega (arith, node_long i (and_l ok rest h), nodes_long (i + 1) n (and_r ok rest h))

  records_end : (at end : ℕ) (rs : List NodeRecord) → T (touch at end rs) → at + sizes_of rs ≡ end
  unfolding touch sizes_of
  records_end at end [] h = omega (arith, eqb-true at end (is_true (eqb at end) h))
  records_end at end (r ∷ rs) h = omega (arith, records_end (at + r.size) end rs (and_r (eqb r.offset at) (touch (at + r.size) end rs) h))

  pub numbers_fit : T (layout_ok s) → nodes_numbers (nodes_from s 0 (count_of s)) ≤ 2 * length s
  unfolding layout_ok
  numbers_fit h =
      let rs = node_records_from s 0 (count_of s) in
      let front = touch (pair_place (count_of s)) (length s) rs in
      let touching = and_r (header_ok s) front (and_l (header_ok s && front) (all node_record_ok rs) (and_l (header_ok s && front && all node_record_ok rs) (depths_ok false rs) h)) in
      omega (arith, nodes_long 0 (count_of s) (records_ok s h), records_end (pair_place (count_of s)) (length s) rs touching)
