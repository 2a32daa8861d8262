-- Twins, document 02, [2]: "A sheet with typed lists that pass and its kind 3 twin, both within 65,536 bytes and given outputs of one length, give the same
-- number and list" (theorem `twins`). The twin t of a sheet s has a list of kind 3 for each typed list of s, with the same numbers, and is otherwise the same.
-- Definitions only.
use Rattle.std.specs.Prelude.{ℕ, ◌≤◌, ◌<◌, ◌≡◌, true, List, [], ◌∷◌, length, take, Float}
use Rattle.answer.specs.declared.Answer.{Answer}
use Rattle.bits.specs.Bytes.{bytes_from}
use Rattle.number_list.specs.Outcome.{passed, text_outcome}
use Rattle.sheet_fields.specs.Fields.{header_pairs, node_attributes, kind_numbers, kind_typed}
use Rattle.svgtree.specs.Parse.{attribute_id, attribute_kind_at, attribute_length_at, value_place, places_of, count_of, offset_of}
use Rattle.sheet_layout.specs.Layout.{layout_ok}
use Rattle.tree.specs.Scalars.{run_bytes}

-- the bytes of the value of the attribute at a place
abbrev pub value_bytes : List ℕ → ℕ → List ℕ
value_bytes s at = bytes_from s (value_place at) (attribute_length_at s at)

-- the attributes of a node of s and of its twin in t, by the places where they begin, one after the other
pub data TwinAttributes (s t : List ℕ) : List ℕ → List ℕ → Type 0 where
  no_attributes : TwinAttributes s t [] []
  -- the same id, the same kind, which is not 7, and the same bytes
  same_value : {a b : ℕ} {ps qs : List ℕ}
      → attribute_id s a ≡ attribute_id t b
      → attribute_kind_at s a ≡ attribute_kind_at t b
      → (attribute_kind_at s a ≡ kind_typed → ⊥)
      → value_bytes s a ≡ value_bytes t b
      → TwinAttributes s t ps qs
      → TwinAttributes s t (a ∷ ps) (b ∷ qs)
  -- the same id; in s kind 7, with a text that passes and has the numbers xs; in t kind 3, with the four bytes of each of these
  typed_list : {a b : ℕ} {ps qs : List ℕ} {xs : List Float}
      → attribute_id s a ≡ attribute_id t b
      → attribute_kind_at s a ≡ kind_typed
      → attribute_kind_at t b ≡ kind_numbers
      → text_outcome (value_bytes s a) ≡ passed xs
      → value_bytes t b ≡ run_bytes xs
      → TwinAttributes s t ps qs
      → TwinAttributes s t (a ∷ ps) (b ∷ qs)

-- node i of both: the same depth, tag, attribute count, zero and font size, which are its first eight bytes; and twin attributes
pub record TwinNodes (s t : List ℕ) (i : ℕ) : Type 0 where
  pub head : bytes_from s (offset_of s i) node_attributes ≡ bytes_from t (offset_of t i) node_attributes
  pub attributes : TwinAttributes s t (places_of s (offset_of s i)) (places_of t (offset_of t i))

-- both are in the layout and within 65,536 bytes; the bytes before the pairs, which are the header and the node count, are the same; each node has its twin.
-- The offsets and lengths in the pairs may differ
pub record Twins (s t : List ℕ) : Type 0 where
  pub layout : layout_ok s ≡ true
  pub twin_layout : layout_ok t ≡ true
  pub size : length s ≤ 65536
  pub twin_size : length t ≤ 65536
  pub front : bytes_from s 0 header_pairs ≡ bytes_from t 0 header_pairs
  pub nodes : (i : ℕ) → i < count_of s → TwinNodes s t i

-- two calls that answered r and q and left o' and p' in their outputs: the same number, the same length, and the same list, the output's first bytes
pub record SameAnswer (r : Answer) (o' : List ℕ) (q : Answer) (p' : List ℕ) : Type 0 where
  pub number : r.number ≡ q.number
  pub length : r.length ≡ q.length
  pub list : take r.length o' ≡ take q.length p'
