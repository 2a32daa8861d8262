-- Nothing past the end of a sheet in the layout is read: header and pairs lie within it, and so does each record, which its attributes fill. Assumes nothing.
use Prim.Native.Nat.{ℕ, zero, suc, ◌+◌, ◌%◌, ◌≤◌, ◌<◌}
use native.Mathlib.Omega.{arith}
use mathlib.Core.Path.{◌≡◌, refl, ap, ◌∙◌}
use mathlib.Core.List.{List, ◌++◌, map}
use lib.Dec.{T}
use lib.ListN.{length}
use Rattle.bits.specs.Bytes.{bytes_from}
use Rattle.bits.proofs.Runs.{length-bytes_from}
use Rattle.num.specs.Numbers.{Each}
use Rattle.sheet_fields.specs.Fields.{header_pairs, node_attribute_count, node_attributes, attribute_kind, attribute_length}
use Rattle.svgtree.specs.Parse.{value_at, attribute_id, attribute_kind_at, attribute_length_at, value_place, next_place, attribute_at, places_from, attribute_count, attributes_place}
use Rattle.svgtree.specs.Parse.{places_of, node_from, count_of, pair_place, pair_offset, pair_length_at, offset_of, node_at, nodes_from, header_of, sheet_of}
use Rattle.sheet_layout.specs.Tests.{sum}
use Rattle.sheet_layout.specs.Records.{entry_at, entry_size, node_record_at}
use Rattle.sheet_layout.specs.Layout.{layout_ok}
use Rattle.sheet_layout.proofs.Offsets.{record_filled, pairs_within, record_within, offset_exact}
use Rattle.sheet_accepted.proofs.ByKind.{InKindAt, record_kinds}
use Rattle.sheet_accepted.proofs.Values.{node_moved, count_moved, header_moved}
use Rattle.sheet_accepted.proofs.Behind.{byte_same, bytes_same, le16_same, le32_same, value_same}

-- the bytes of the attributes at these places
abbrev filled : List ℕ → List ℕ → ℕ
filled s ps = sum (map entry_size (map (entry_at s) ps))

-- n nodes from number i on are the same if each is
pub nodes_same : (s t : List ℕ) (i n : ℕ) → ((j : ℕ) → i ≤ j → j < i + n → node_at s j ≡ node_at t j) → nodes_from s i n ≡ nodes_from t i n
unfolding nodes_from
nodes_same s t i zero f = refl
nodes_same s t i (suc n) f =
    let first : node_at s i ≡ node_at t i = f i (omega arith) (omega arith) in
    let rest : nodes_from s (i + 1) n ≡ nodes_from t (i + 1) n = nodes_same s t (i + 1) n (λ j l h. f j (omega arith) (omega arith)) in
    cc

module _ (s more : List ℕ) where
  abbrev t : List ℕ
  t = s ++ more

  -- ---- a node

  attribute_same : (at : ℕ) → InKindAt s at → next_place s at ≤ length s → attribute_at t at ≡ attribute_at s at
  unfolding attribute_at
  attribute_same at k h =
      let id : attribute_id t at ≡ attribute_id s at = le16_same s more at (omega arith) in
      let kind : attribute_kind_at t at ≡ attribute_kind_at s at = byte_same s more (at + attribute_kind) (omega arith) in
      let long : attribute_length_at t at ≡ attribute_length_at s at = le16_same s more (at + attribute_length) (omega arith) in
      let value : value_at t (attribute_kind_at s at) (value_place at) (attribute_length_at s at) ≡ value_at s (attribute_kind_at s at) (value_place at) (attribute_length_at s at)
      = value_same s more (attribute_kind_at s at) (value_place at) (attribute_length_at s at) k h in
      cc

  attributes_same : (at n : ℕ) → Each (InKindAt s) (places_from s at n) → at + filled s (places_from s at n) ≤ length s
      → map (attribute_at t) (places_from t at n) ≡ map (attribute_at s) (places_from s at n)
  unfolding places_from sum entry_at
  attributes_same at zero k h = refl
  attributes_same at (suc n) k h =
      let size : length (bytes_from s (value_place at) (attribute_length_at s at)) ≡ attribute_length_at s at = length-bytes_from s (value_place at) (attribute_length_at s at) in
      let first : attribute_at t at ≡ attribute_at s at = attribute_same at k.0 (omega arith) in
      let next : next_place t at ≡ next_place s at = ap (λ (l : ℕ). value_place at + l) (le16_same s more (at + attribute_length) (omega arith)) in
      let rest : map (attribute_at t) (places_from t (next_place s at) n) ≡ map (attribute_at s) (places_from s (next_place s at) n)
      = attributes_same (next_place s at) n k.1 (omega arith) in
      cc

  node_same : (at : ℕ) → Each (InKindAt s) (places_of s at) → at + (node_attributes + filled s (places_of s at)) ≤ length s → node_from t at ≡ node_from s at
  node_same at k h =
      let count : attribute_count t at ≡ attribute_count s at = byte_same s more (at + node_attribute_count) (omega arith) in
      node_moved t s at at (bytes_same s more at node_attributes (omega arith))
      (ap (λ (n : ℕ). map (attribute_at t) (places_from t (attributes_place at) n)) count ∙ attributes_same (attributes_place at) (attribute_count s at) k (omega arith))

  module _ (ok : T (layout_ok s)) (short : length s ≤ 65536) where
    number_same : (i : ℕ) → i < count_of s → node_at t i ≡ node_at s i
    unfolding node_record_at
    number_same i h =
        let pairs : pair_place (count_of s) ≤ length s = pairs_within s ok in
        let within : pair_offset s i + pair_length_at s i ≤ length s = (record_within s ok i h).1 in
        let exact : offset_of s i ≡ pair_offset s i = offset_exact s ok i h short in
        let filled : node_attributes + filled s (places_of s (offset_of s i)) ≡ pair_length_at s i = record_filled (node_record_at s i) (record_within s ok i h).0 in
        let place : offset_of t i ≡ offset_of s i = ap (λ (n : ℕ). n % 65536) (le32_same s more (pair_place i) (omega arith)) in
        let node : node_from t (offset_of s i) ≡ node_from s (offset_of s i) = node_same (offset_of s i) (record_kinds s i (record_within s ok i h).0) (omega arith) in
        ap (node_from t) place ∙ node

    pub end_same : sheet_of t ≡ sheet_of s
    unfolding sheet_of
    end_same =
        let pairs : pair_place (count_of s) ≤ length s = pairs_within s ok in
        let front : bytes_from t 0 header_pairs ≡ bytes_from s 0 header_pairs = bytes_same s more 0 header_pairs (omega arith) in
        let count : count_of t ≡ count_of s = count_moved t s front in
        let header : header_of t ≡ header_of s = header_moved t s front in
        let nodes : nodes_from t 0 (count_of s) ≡ nodes_from s 0 (count_of s)
        = nodes_same t s 0 (count_of s) (λ j l h. number_same j (omega arith)) in
        cc
