-- What is read is a matter of the bytes that are read: the same bytes, at another place or in another sheet, are the same number, the same value of a kind, the
-- same header. Of a value no bytes are read but its own, since the layout gives each kind its length. Assumes nothing.
use Prim.Native.Nat.{ℕ, zero, suc, ◌+◌, ◌*◌, ◌/◌, ◌≤◌, ◌<◌, min}
use native.Mathlib.Nat.{add-zero}
use native.Mathlib.Omega.{arith}
use mathlib.Core.Path.{◌≡◌, refl, sym, ap, ◌∙◌}
use mathlib.Core.List.{List, map}
use lib.ListN.{get_or}
use lib.Ieee.{binary32, of_bits}
use Rattle.bits.specs.Bytes.{le16, le32, le64, bytes_from}
use Rattle.number_list.specs.Outcome.{typed_numbers}
use Rattle.sheet_fields.specs.Fields.{header_filter_units, header_primitive_units, header_box_present, header_box_x, header_view_box_width, header_view_box_height}
use Rattle.sheet_fields.specs.Fields.{header_dpi, header_font_size, header_x, header_y, header_width, header_height, header_node_count, header_pairs}
use Rattle.sheet_fields.specs.Fields.{node_tag, node_font_size, node_attributes, size_text_most, size_number, size_length, size_color, size_tries}
use Rattle.sheet_fields.specs.Fields.{marked_number, marked_number_size, tries_second, tries_third}
use Rattle.sheet_fields.specs.BoxFields.{header_box_y, header_box_width, header_box_height}
use Rattle.svgtree.specs.Values.{text_value, number_value, numbers_value, color_value, tries_value}
use Rattle.svgtree.specs.Parse.{singles_from, length_at, color_at, try_at, tried_at, value_at, attribute_at, places_of, node_from, count_of, header_length, header_of}
use Rattle.bits.proofs.Runs.{get_or-bytes_from}
use Rattle.sheet_layout.proofs.Runs.{run_in}
use Rattle.sheet_accepted.proofs.ByKind.{InKind, unreadable, text, number, numbers, plain_length_value, color, tries, typed}

module _ (s t : List ℕ) where
  -- ---- the same n bytes, of s from a on and of t from b on: one of them, and a run of them

  module _ (a b n : ℕ) (e : bytes_from s a n ≡ bytes_from t b n) where
    byte_moved : (i : ℕ) → i < n → get_or s (a + i) 0 ≡ get_or t (b + i) 0
    byte_moved i h = sym (get_or-bytes_from s a n i h) ∙ ap (λ (l : List ℕ). get_or l i 0) e ∙ get_or-bytes_from t b n i h

    first_moved : 0 < n → get_or s a 0 ≡ get_or t b 0
    first_moved h = rw (add-zero a, add-zero b) at (byte_moved 0 h)

    run_moved : (i m : ℕ) → i + m ≤ n → bytes_from s (a + i) m ≡ bytes_from t (b + i) m
    run_moved i m h = sym (run_in s a n i m h) ∙ ap (λ (l : List ℕ). bytes_from l i m) e ∙ run_in t b n i m h

    front_moved : (m : ℕ) → m ≤ n → bytes_from s a m ≡ bytes_from t b m
    front_moved m h = rw (add-zero a, add-zero b) at (run_moved 0 m (omega arith))

  -- ---- numbers

  pub le16_moved : (a b : ℕ) → bytes_from s a 2 ≡ bytes_from t b 2 → le16 s a ≡ le16 t b
  unfolding le16
  le16_moved a b e = cc (first_moved a b 2 e (omega arith), byte_moved a b 2 e 1 (omega arith))

  pub le32_moved : (a b : ℕ) → bytes_from s a 4 ≡ bytes_from t b 4 → le32 s a ≡ le32 t b
  unfolding le32
  le32_moved a b e =
      cc (first_moved a b 4 e (omega arith), byte_moved a b 4 e 1 (omega arith), byte_moved a b 4 e 2 (omega arith), byte_moved a b 4 e 3 (omega arith))

  le64_moved : (a b : ℕ) → bytes_from s a 8 ≡ bytes_from t b 8 → le64 s a ≡ le64 t b
  unfolding le64
  le64_moved a b e = cc (le32_moved a b (front_moved a b 8 e 4 (omega arith)), le32_moved (a + 4) (b + 4) (run_moved a b 8 e 4 4 (omega arith)))

  singles_moved : (a b n : ℕ) → bytes_from s a (n * size_number) ≡ bytes_from t b (n * size_number) → singles_from s a n ≡ singles_from t b n
  unfolding singles_from
  singles_moved a b zero e = refl
  singles_moved a b (suc n) e =
      let bytes = suc n * size_number in
      let first : le32 s a ≡ le32 t b = le32_moved a b (front_moved a b bytes e size_number (omega arith)) in
      let rest : singles_from s (a + size_number) n ≡ singles_from t (b + size_number) n
      = singles_moved (a + size_number) (b + size_number) n (run_moved a b bytes e size_number (n * size_number) (omega arith)) in
      cc

  -- ---- values

  length_moved : (a b : ℕ) → bytes_from s a size_length ≡ bytes_from t b size_length → length_at s a ≡ length_at t b
  length_moved a b e =
      cc (
        first_moved a b size_length e (omega arith),
        le64_moved (a + marked_number) (b + marked_number) (run_moved a b size_length e marked_number marked_number_size (omega arith)),
      )

  color_moved : (a b : ℕ) → bytes_from s a size_color ≡ bytes_from t b size_color → color_at s a ≡ color_at t b
  color_moved a b e =
      cc (
        first_moved a b size_color e (omega arith),
        byte_moved a b size_color e 1 (omega arith),
        byte_moved a b size_color e 2 (omega arith),
        byte_moved a b size_color e 3 (omega arith),
      )

  -- a try has the bytes of a length
  try_moved : (a b : ℕ) → bytes_from s a size_length ≡ bytes_from t b size_length → try_at s a ≡ try_at t b
  unfolding try_at
  try_moved a b e =
      cc (
        first_moved a b size_length e (omega arith),
        le64_moved (a + marked_number) (b + marked_number) (run_moved a b size_length e marked_number marked_number_size (omega arith)),
      )

  tried_moved : (a b : ℕ) → bytes_from s a size_tries ≡ bytes_from t b size_tries → tried_at s a ≡ tried_at t b
  tried_moved a b e =
      cc (
        try_moved a b (front_moved a b size_tries e size_length (omega arith)),
        try_moved (a + tries_second) (b + tries_second) (run_moved a b size_tries e tries_second size_length (omega arith)),
        try_moved (a + tries_third) (b + tries_third) (run_moved a b size_tries e tries_third size_length (omega arith)),
      )

  pub value_moved : (kind a b n : ℕ) → InKind s a n kind → bytes_from s a n ≡ bytes_from t b n → value_at s kind a n ≡ value_at t kind b n
  unfolding value_at
  value_moved kind a b n (unreadable q) e = refl
  value_moved kind a b n (text l u) e = ap text_value (front_moved a b n e (min n size_text_most) (omega arith))
  value_moved kind a b n (number q) e = ap (λ (m : ℕ). number_value (of_bits binary32 m)) (le32_moved a b (front_moved a b n e size_number (omega arith)))
  value_moved kind a b n (numbers m l) e =
      ap numbers_value (singles_moved a b (n / size_number) (front_moved a b n e (n / size_number * size_number) (omega arith)))
  value_moved kind a b n (plain_length_value q) e = length_moved a b (front_moved a b n e size_length (omega arith))
  value_moved kind a b n (color q) e = ap color_value (color_moved a b (front_moved a b n e size_color (omega arith)))
  value_moved kind a b n (tries q) e = ap tries_value (tried_moved a b (front_moved a b n e size_tries (omega arith)))
  value_moved kind a b n (typed l) e = ap (λ (text : List ℕ). numbers_value (typed_numbers text)) e

  -- a node is its first bytes and its attributes
  pub node_moved : (a b : ℕ) → bytes_from s a node_attributes ≡ bytes_from t b node_attributes
      → map (attribute_at s) (places_of s a) ≡ map (attribute_at t) (places_of t b) → node_from s a ≡ node_from t b
  unfolding node_from
  node_moved a b e f =
      cc (
        first_moved a b node_attributes e (omega arith),
        byte_moved a b node_attributes e node_tag (omega arith),
        le32_moved (a + node_font_size) (b + node_font_size) (run_moved a b node_attributes e node_font_size size_number (omega arith)),
        f,
      )

  -- ---- the bytes before the pairs

  header_length_moved : (a b : ℕ) → bytes_from s a size_length ≡ bytes_from t b size_length → header_length s a ≡ header_length t b
  unfolding header_length
  header_length_moved a b e = cc (first_moved a b size_length e (omega arith), length_moved a b e)

  module _ (e : bytes_from s 0 header_pairs ≡ bytes_from t 0 header_pairs) where
    pub count_moved : count_of s ≡ count_of t
    count_moved = le16_moved header_node_count header_node_count (run_moved 0 0 header_pairs e header_node_count 2 (omega arith))

    number_at : (i : ℕ) → i + size_number ≤ header_pairs → le32 s (0 + i) ≡ le32 t (0 + i)
    number_at i h = le32_moved (0 + i) (0 + i) (run_moved 0 0 header_pairs e i size_number h)

    length_at_lem : (i : ℕ) → i + size_length ≤ header_pairs → header_length s (0 + i) ≡ header_length t (0 + i)
    length_at_lem i h = header_length_moved (0 + i) (0 + i) (run_moved 0 0 header_pairs e i size_length h)

    pub header_moved : header_of s ≡ header_of t
    unfolding header_of
    header_moved =
        rw (
          byte_moved 0 0 header_pairs e header_filter_units (omega arith),
          byte_moved 0 0 header_pairs e header_primitive_units (omega arith),
          byte_moved 0 0 header_pairs e header_box_present (omega arith),
          number_at header_box_x (omega arith),
          number_at header_box_y (omega arith),
          number_at header_box_width (omega arith),
          number_at header_box_height (omega arith),
          number_at header_view_box_width (omega arith),
          number_at header_view_box_height (omega arith),
          number_at header_dpi (omega arith),
          number_at header_font_size (omega arith),
          length_at_lem header_x (omega arith),
          length_at_lem header_y (omega arith),
          length_at_lem header_width (omega arith),
          length_at_lem header_height (omega arith),
        )
