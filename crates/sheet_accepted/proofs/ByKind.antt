-- What the layout says of the bytes of a value, kind by kind, and that it holds at each attribute of a node: refusal 2 turns every other sheet away.
-- Assumes nothing.
use Prim.Native.Nat.{ℕ, ◌/◌, ◌%◌, ◌≤◌}
use mathlib.Core.Path.{◌≡◌, refl, sym, ◌∙◌, subst}
use mathlib.Core.Bool.{Bool, true, false, cond, ◌&&◌}
use mathlib.Core.List.{List, [], ◌∷◌, map}
use lib.Dec.{T, leb, eqb, leb→le, eqb→eq}
use lib.ListN.{length, get_or}
use lib.Ieee.Fits.{and_l, and_r}
use lib.Ieee.Bits.{is_true}
use borrow.Author.Tests.{eqb-true}
use Rattle.bits.specs.Bytes.{bytes_from}
use Rattle.bits.specs.Utf8.{utf8}
use Rattle.bits.proofs.Runs.{length-bytes_from}
use Rattle.num.specs.Numbers.{Each}
use Rattle.names.specs.Kinds.{kind_allowed}
use Rattle.sheet_fields.specs.Fields.{kind_unreadable, kind_text, kind_number, kind_numbers, kind_length, kind_color, kind_tries, kind_typed}
use Rattle.sheet_fields.specs.Fields.{size_text_most, size_number, size_numbers_most, size_length, size_color, size_tries, size_typed_most, unit_percent}
use Rattle.svgtree.specs.Parse.{attribute_kind_at, attribute_length_at, value_place, places_of, offset_of}
use Rattle.field_tests.specs.Tests.{all}
use Rattle.sheet_layout.specs.Records.{entry_at, node_record_at}
use Rattle.sheet_layout.specs.Layout.{tries_ok, bytes_ok, word_ok, entry_ok, node_record_ok}
use Rattle.sheet_layout.proofs.Offsets.{record_entries}

-- the `len` bytes from `at` on are those of a value of the kind
pub data InKind (s : List ℕ) (at len : ℕ) : ℕ → Type 0 where
  unreadable : len ≡ 0 → InKind s at len kind_unreadable
  text : len ≤ size_text_most → utf8 (bytes_from s at len) ≡ true → InKind s at len kind_text
  number : len ≡ size_number → InKind s at len kind_number
  numbers : len % size_number ≡ 0 → len / size_number ≤ size_numbers_most → InKind s at len kind_numbers
  plain_length_value : len ≡ size_length → InKind s at len kind_length
  color : len ≡ size_color → InKind s at len kind_color
  tries : len ≡ size_tries → InKind s at len kind_tries
  typed : len ≤ size_typed_most → InKind s at len kind_typed

module _ (s : List ℕ) (at len kind : ℕ) where
  abbrev b : List ℕ
  b = bytes_from s at len

  -- the bytes are as many as the length says
  abbrev n : ℕ
  n = length b

  is_len : n ≡ len
  is_len = length-bytes_from s at len

  pick : (k : ℕ) (ok other : Bool) → (T ok → InKind s at len k) → (T other → InKind s at len kind) → T (cond (eqb kind k) ok other) → InKind s at len kind
  pick k ok other f g = go (eqb kind k) refl
    where
      go : (b : Bool) → eqb kind k ≡ b → T (cond b ok other) → InKind s at len kind
      go true e h = subst (InKind s at len) (sym (eqb-true kind k e)) (f h)
      go false e h = g h

  sized : (m : ℕ) → T (eqb n m) → len ≡ m
  sized m h = sym is_len ∙ eqb→eq n m h

  text_in : T (leb n size_text_most && utf8 b) → InKind s at len kind_text
  text_in h = text (subst (λ (m : ℕ). m ≤ size_text_most) is_len (leb→le n size_text_most (and_l (leb n size_text_most) (utf8 b) h))) (is_true (utf8 b) (and_r (leb n size_text_most) (utf8 b) h))

  numbers_in_lem : T (eqb (n % size_number) 0 && leb (n / size_number) size_numbers_most) → InKind s at len kind_numbers
  numbers_in_lem h =
      let whole = eqb (n % size_number) 0 in
      let few = leb (n / size_number) size_numbers_most in
      numbers (subst (λ (m : ℕ). m % size_number ≡ 0) is_len (eqb→eq (n % size_number) 0 (and_l whole few h)))
      (subst (λ (m : ℕ). m / size_number ≤ size_numbers_most) is_len (leb→le (n / size_number) size_numbers_most (and_r whole few h)))

  in_kind : T (bytes_ok kind b) → InKind s at len kind
  unfolding bytes_ok
  in_kind =
      pick kind_unreadable (eqb n 0) _ (λ h. unreadable (sized 0 h))
      (pick kind_text (leb n size_text_most && utf8 b) _ text_in
      (pick kind_number (eqb n size_number) _ (λ h. number (sized size_number h))
      (pick kind_numbers (eqb (n % size_number) 0 && leb (n / size_number) size_numbers_most) _ numbers_in_lem
      (pick kind_length (eqb n size_length && leb (get_or b 0 0) unit_percent) _ (λ h. plain_length_value (sized size_length (and_l (eqb n size_length) (leb (get_or b 0 0) unit_percent) h)))
      (pick kind_color (eqb n size_color) _ (λ h. color (sized size_color h))
      (pick kind_tries (eqb n size_tries && tries_ok b) _ (λ h. tries (sized size_tries (and_l (eqb n size_tries) (tries_ok b) h)))
      (pick kind_typed (leb n size_typed_most) false (λ h. typed (subst (λ (m : ℕ). m ≤ size_typed_most) is_len (leb→le n size_typed_most h))) (λ h. absurd h))))))))

-- ---- the attributes of a node

-- the attribute at a place
abbrev pub InKindAt : List ℕ → ℕ → Type 0
InKindAt s at = InKind s (value_place at) (attribute_length_at s at) (attribute_kind_at s at)

module _ (s : List ℕ) where
  entry_kind : (depth at : ℕ) → T (entry_ok depth (entry_at s at)) → InKindAt s at
  unfolding entry_ok entry_at
  entry_kind depth at h =
      let e = entry_at s at in
      let front = eqb e.zero 0 && kind_allowed depth e.id e.kind in
      in_kind s (value_place at) (attribute_length_at s at) (attribute_kind_at s at)
      (and_r front (bytes_ok e.kind e.bytes) (and_l (front && bytes_ok e.kind e.bytes) (word_ok e.id e.kind e.bytes) h))

  entries_kind : (depth : ℕ) (ps : List ℕ) → T (all (entry_ok depth) (map (entry_at s) ps)) → Each (InKindAt s) ps
  unfolding all
  entries_kind depth [] h = tt
  entries_kind depth (p ∷ ps) h =
      let rest = all (entry_ok depth) (map (entry_at s) ps) in
      (entry_kind depth p (and_l (entry_ok depth (entry_at s p)) rest h), entries_kind depth ps (and_r (entry_ok depth (entry_at s p)) rest h))

  pub record_kinds : (i : ℕ) → T (node_record_ok (node_record_at s i)) → Each (InKindAt s) (places_of s (offset_of s i))
  unfolding node_record_at
  record_kinds i h = entries_kind (node_record_at s i).depth (places_of s (offset_of s i)) (record_entries (node_record_at s i) h)
