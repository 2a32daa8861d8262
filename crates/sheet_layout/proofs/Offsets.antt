-- In the layout a node's record lies within the sheet, since records touch and the last one ends it. So an offset, with eight bytes of its node behind it, is
-- below the sheet's end, and two bytes hold it. Assumes nothing.
use Prim.Native.Nat.{ℕ, zero, suc, ◌+◌, ◌≤◌, ◌<◌}
use native.Mathlib.Nat.{add-zero}
use native.Mathlib.Omega.{arith}
use mathlib.Core.Path.{◌≡◌, subst}
use mathlib.Core.Bool.{Bool, false, ◌&&◌}
use mathlib.Core.List.{List, [], ◌∷◌, map}
use lib.Dec.{T, eqb, eqb→eq}
use lib.ListN.{length}
use lib.Ieee.Fits.{and_l, and_r}
use Rattle.sheet_fields.specs.Fields.{node_attributes}
use Rattle.svgtree.specs.Parse.{count_of, pair_place, pair_offset, pair_length_at, offset_of}
use Rattle.sheet_layout.specs.Tests.{rising, sum}
use Rattle.field_tests.specs.Tests.{all}
use Rattle.sheet_layout.specs.Records.{Entry, entry_size, NodeRecord, node_record_at, node_records_from}
use Rattle.sheet_layout.specs.Layout.{header_ok, touch, entry_ok, entries_ok, node_head_ok, node_record_ok, depths_ok, layout_ok}

-- records that touch end behind their start
touch_under : (at end : ℕ) (rs : List NodeRecord) → T (touch at end rs) → at ≤ end
unfolding touch
touch_under at end [] h = let e : at ≡ end = eqb→eq at end h in omega arith
touch_under at end (r ∷ rest) h =
    let k : at + r.size ≤ end = touch_under (at + r.size) end rest (and_r (eqb r.offset at) (touch (at + r.size) end rest) h) in
    omega arith

-- a record's attributes are in the layout, and fill it
module _ (r : NodeRecord) (h : T (node_record_ok r)) where
  abbrev size_ok : Bool
  size_ok = eqb (node_attributes + sum (map entry_size r.entries)) r.size

  abbrev risen : Bool
  risen = rising (map (λ (e : Entry). e.id) r.entries)

  pub record_entries : T (all (entry_ok r.depth) r.entries)
  unfolding node_record_ok entries_ok
  record_entries =
      let ok = all (entry_ok r.depth) r.entries in
      and_l ok risen (and_l (ok && risen) size_ok (and_r (node_head_ok r.depth r.tag r.count r.zero) (entries_ok r.depth r.size r.entries) h))

  pub record_filled : node_attributes + sum (map entry_size r.entries) ≡ r.size
  unfolding node_record_ok entries_ok
  record_filled =
      eqb→eq (node_attributes + sum (map entry_size r.entries)) r.size
      (and_r (all (entry_ok r.depth) r.entries && risen) size_ok (and_r (node_head_ok r.depth r.tag r.count r.zero) (entries_ok r.depth r.size r.entries) h))

-- a node's record is in the layout, and ends where the sheet ends or before
abbrev Within : List ℕ → ℕ → ℕ → Type 0
Within s end i = T (node_record_ok (node_record_at s i)) × (pair_offset s i + pair_length_at s i ≤ end)

within : (s : List ℕ) (end i n at k : ℕ) → T (touch at end (node_records_from s i n)) → T (all node_record_ok (node_records_from s i n)) → k < n → Within s end (i + k)
unfolding node_records_from touch all node_record_at
within s end i zero at k t o h = absurd (omega arith)
within s end i (suc n) at zero t o h =
    let r = node_record_at s i in
    let rest = node_records_from s (i + 1) n in
    let place : pair_offset s i ≡ at = eqb→eq (pair_offset s i) at (and_l (eqb r.offset at) (touch (at + r.size) end rest) t) in
    let under : at + r.size ≤ end = touch_under (at + r.size) end rest (and_r (eqb r.offset at) (touch (at + r.size) end rest) t) in
    rw (add-zero i) (and_l (node_record_ok r) (all node_record_ok rest) o, omega (arith, place, under))
within s end i (suc n) at (suc k) t o h =
    let r = node_record_at s i in
    let rest = node_records_from s (i + 1) n in
    let e : i + suc k ≡ i + 1 + k = omega arith in
    rw e
    (within s end (i + 1) n (at + r.size) k
    (and_r (eqb r.offset at) (touch (at + r.size) end rest) t)
    (and_r (node_record_ok r) (all node_record_ok rest) o)
    (omega arith))

module _ (s : List ℕ) (h : T (layout_ok s)) where
  abbrev records : List NodeRecord
  records = node_records_from s 0 (count_of s)

  abbrev touches : Bool
  touches = touch (pair_place (count_of s)) (length s) records

  touched : T touches
  unfolding layout_ok
  touched = and_r (header_ok s) touches (and_l (header_ok s && touches) (all node_record_ok records) (and_l (header_ok s && touches && all node_record_ok records) (depths_ok false records) h))

  pub records_ok : T (all node_record_ok records)
  unfolding layout_ok
  records_ok = and_r (header_ok s && touches) (all node_record_ok records) (and_l (header_ok s && touches && all node_record_ok records) (depths_ok false records) h)

  -- the pairs lie within the sheet, and so does the record of each node
  pub pairs_within : pair_place (count_of s) ≤ length s
  pairs_within = touch_under (pair_place (count_of s)) (length s) records touched

  module _ (i : ℕ) (l : i < count_of s) where
    pub record_within : Within s (length s) i
    record_within =
        let z : 0 + i ≡ i = omega arith in
        subst (Within s (length s)) z (within s (length s) 0 (count_of s) (pair_place (count_of s)) i touched records_ok l)

    pub offset_exact : length s ≤ 65536 → offset_of s i ≡ pair_offset s i
    unfolding node_record_at
    offset_exact long =
        let inside : pair_offset s i + pair_length_at s i ≤ length s = record_within.1 in
        let filled : node_attributes + sum (map entry_size (node_record_at s i).entries) ≡ pair_length_at s i = record_filled (node_record_at s i) record_within.0 in
        omega arith
