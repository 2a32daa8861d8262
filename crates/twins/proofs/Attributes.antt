-- Twin attributes say the same, since a value is a matter of its own bytes and the four bytes of each number of a typed list are read as that number. Each typed
-- list of s passes, and t has none. Assumes nothing.
use Prim.Native.Nat.{ℕ, ◌+◌, ◌-◌, ◌*◌, ◌/◌, ◌≤◌}
use native.Mathlib.Omega.{arith}
use mathlib.Core.Path.{◌≡◌, refl, sym, ap, ◌∙◌, subst}
use mathlib.Core.Bool.{false}
use mathlib.Core.List.{List, [], ◌∷◌, ◌++◌, map}
use lib.Dec.{T, eqb}
use lib.ListN.{length}
use lib.Ieee.{Float, binary32, fits, to_bits, of_bits}
use lib.Ieee.Fits.{and_l, and_r}
use lib.Ieee.Bits.{of_bits-to_bits, to_bits-lt}
use borrow.Author.Tests.{eq-eqb, ne_eqb}
use Rattle.bits.specs.Bytes.{le32, bytes_from, bytes_f}
use Rattle.bits.proofs.Runs.{length-bytes_from}
use Rattle.num.specs.Numbers.{Each}
use Rattle.number_list.specs.Outcome.{passed, text_outcome, typed_numbers}
use Rattle.number_list.proofs.Passing.{passing}
use Rattle.sheet_fields.specs.Fields.{kind_numbers, kind_typed, size_number}
use Rattle.svgtree.specs.Values.{numbers_value}
use Rattle.svgtree.specs.Parse.{single, singles_from, value_at, attribute_id, attribute_kind_at, attribute_length_at, value_place, attribute_at}
use Rattle.tree.specs.Scalars.{run_bytes}
use Rattle.tree.proofs.Runs.{length_run}
use Rattle.field_tests.specs.Tests.{all}
use Rattle.list_read.specs.Read.{got, read32}
use Rattle.list_read.proofs.Back.{read32_back}
use Rattle.list_layout.proofs.Listing.{read32_at}
use Rattle.sheet_check.specs.Texts.{texts_in}
use Rattle.sheet_accepted.proofs.ByKind.{InKindAt}
use Rattle.sheet_accepted.proofs.Texts.{ReadText}
use Rattle.sheet_accepted.proofs.Layouts.{typed_fit}
use Rattle.sheet_accepted.proofs.Values.{value_moved}
use Rattle.twins.specs.Twins.{value_bytes, TwinAttributes, no_attributes, same_value, typed_list}

-- ---- numbers that are written are read back

number_back : (t : List ℕ) (b n : ℕ) (x : Float) (rest : List ℕ) → 4 ≤ n → T (fits binary32 x) → bytes_from t b n ≡ bytes_f x ++ rest
    → (single t b ≡ x) × (bytes_from t (b + 4) (n - 4) ≡ rest)
number_back t b n x rest h f e =
    let read : got (le32 t b) (bytes_from t (b + 4) (n - 4)) ≡ got (to_bits binary32 x) rest
    = sym (read32_at t b n h) ∙ ap read32 e ∙ read32_back (to_bits binary32 x) rest (to_bits-lt binary32 x f) in
    let bits : le32 t b ≡ to_bits binary32 x = cc in
    (ap (of_bits binary32) bits ∙ of_bits-to_bits binary32 x f, cc)

numbers_back : (t : List ℕ) (b : ℕ) (xs : List Float) → T (all (fits binary32) xs) → bytes_from t b (4 * length xs) ≡ run_bytes xs → singles_from t b (length xs) ≡ xs
unfolding all run_bytes singles_from
numbers_back t b [] f e = refl
numbers_back t b (x ∷ xs) f e =
    let behind = all (fits binary32) xs in
    let back = number_back t b (4 * length (x ∷ xs)) x (run_bytes xs) (omega arith) (and_l (fits binary32 x) behind f) e in
    let fewer : 4 * length (x ∷ xs) - 4 ≡ 4 * length xs = omega arith in
    let first : single t b ≡ x = back.0 in
    let rest : singles_from t (b + 4) (length xs) ≡ xs = numbers_back t (b + 4) xs (and_r (fits binary32 x) behind f) (rw fewer at back.1) in
    cc

module _ (s t : List ℕ) where
  -- ---- the texts of the typed lists

  pub texts_read : {ps qs : List ℕ} → TwinAttributes s t ps qs → Each ReadText (texts_in s ps) × Each ReadText (texts_in t qs)
  unfolding texts_in
  texts_read no_attributes = (tt, tt)
  texts_read (same_value {a} {b} i k q e r) =
      let first : eqb (attribute_kind_at s a) kind_typed ≡ false = ne_eqb (attribute_kind_at s a) kind_typed q in
      let second : eqb (attribute_kind_at t b) kind_typed ≡ false = ne_eqb (attribute_kind_at t b) kind_typed (λ z. q (k ∙ z)) in
      rw (first, second) (texts_read r)
  texts_read (typed_list {a} {b} {xs = xs} i k l o e r) =
      let second : eqb (attribute_kind_at t b) kind_typed ≡ false = ap (λ (n : ℕ). eqb n kind_typed) l in
      let rest = texts_read r in
      rw (eq-eqb (attribute_kind_at s a) kind_typed k, second) ((record { listed = xs; outcome = o }, rest.0), rest.1)

  -- ---- an attribute

  typed_value : (a n b m : ℕ) (xs : List Float) → text_outcome (bytes_from s a n) ≡ passed xs → bytes_from t b m ≡ run_bytes xs
      → value_at s kind_typed a n ≡ value_at t kind_numbers b m
  unfolding value_at
  typed_value a n b m xs o e =
      let text = bytes_from s a n in
      let read : typed_numbers text ≡ xs = (passing text xs o).read in
      let long : m ≡ 4 * length xs = sym (length-bytes_from t b m) ∙ ap length e ∙ length_run xs in
      let count : m / size_number ≡ length xs = omega arith in
      let fit : T (all (fits binary32) xs) = subst (λ (l : List Float). T (all (fits binary32) l)) read (typed_fit text) in
      let back : singles_from t b (length xs) ≡ xs = numbers_back t b xs fit (ap (bytes_from t b) (sym long) ∙ e) in
      ap numbers_value (read ∙ sym (ap (singles_from t b) count ∙ back))

  same_attribute : (a b : ℕ) → attribute_id s a ≡ attribute_id t b → attribute_kind_at s a ≡ attribute_kind_at t b → value_bytes s a ≡ value_bytes t b → InKindAt s a
      → attribute_at s a ≡ attribute_at t b
  unfolding attribute_at
  same_attribute a b i k e q =
      let long : attribute_length_at s a ≡ attribute_length_at t b
      = sym (length-bytes_from s (value_place a) (attribute_length_at s a)) ∙ ap length e ∙ length-bytes_from t (value_place b) (attribute_length_at t b) in
      let value : value_at s (attribute_kind_at s a) (value_place a) (attribute_length_at s a) ≡ value_at t (attribute_kind_at s a) (value_place b) (attribute_length_at s a)
      = value_moved s t (attribute_kind_at s a) (value_place a) (value_place b) (attribute_length_at s a) q (e ∙ ap (bytes_from t (value_place b)) (sym long)) in
      cc

  typed_attribute : (a b : ℕ) (xs : List Float) → attribute_id s a ≡ attribute_id t b → attribute_kind_at s a ≡ kind_typed → attribute_kind_at t b ≡ kind_numbers
      → text_outcome (value_bytes s a) ≡ passed xs → value_bytes t b ≡ run_bytes xs → attribute_at s a ≡ attribute_at t b
  unfolding attribute_at
  typed_attribute a b xs i k l o e =
      let value : value_at s kind_typed (value_place a) (attribute_length_at s a) ≡ value_at t kind_numbers (value_place b) (attribute_length_at t b)
      = typed_value (value_place a) (attribute_length_at s a) (value_place b) (attribute_length_at t b) xs o e in
      cc

  -- ---- the attributes of a node

  pub attributes_same : {ps qs : List ℕ} → TwinAttributes s t ps qs → Each (InKindAt s) ps → map (attribute_at s) ps ≡ map (attribute_at t) qs
  attributes_same no_attributes h = refl
  attributes_same (same_value {a} {b} i k q e r) h = cc (same_attribute a b i k e h.0, attributes_same r h.1)
  attributes_same (typed_list {a} {b} {xs = xs} i k l o e r) h = cc (typed_attribute a b xs i k l o e, attributes_same r h.1)
