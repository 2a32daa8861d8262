-- Each attribute of a node in the layout is read whole: its length is that of its kind, no text is longer than what is read of it, and the numbers of a
-- typed list are those of its outcome. Assumes nothing.
use Prim.Native.Nat.{ℕ, ◌/◌}
use native.Mathlib.Omega.{arith}
use mathlib.Core.Path.{◌≡◌, refl, ap, ◌∙◌}
use mathlib.Core.List.{List, [], ◌∷◌}
use lib.Dec.{T}
use lib.ListN.{length}
use Rattle.bits.specs.Bytes.{bytes_from}
use Rattle.bits.proofs.Runs.{length-bytes_from, bytes_from_none}
use Rattle.num.specs.Numbers.{Each}
use Rattle.number_list.proofs.Passing.{passing}
use Rattle.sheet_fields.specs.Fields.{kind_typed, size_number}
use Rattle.svgtree.specs.Values.{numbers_value}
use Rattle.svgtree.specs.Parse.{singles_from, value_at, attribute_at, attribute_kind_at, attribute_length_at, value_place, places_of, offset_of}
use Rattle.sheet_layout.specs.Records.{node_record_at}
use Rattle.sheet_layout.specs.Layout.{node_record_ok}
use Rattle.sheet_accepted.specs.Given.{Whole, WholeText, WholeAt}
use Rattle.sheet_accepted.proofs.ByKind.{InKind, unreadable, text, number, numbers, plain_length_value, color, tries, typed, InKindAt, record_kinds}
use Rattle.sheet_accepted.proofs.Texts.{ReadText, ReadTextAt}
use Rattle.sheet_accepted.proofs.Layouts.{singles_length, uncut}

module _ (s : List ℕ) where
  value_whole : (kind at len : ℕ) → InKind s at len kind → (kind ≡ kind_typed → ⊥) → Whole (value_at s kind at len) (bytes_from s at len)
  unfolding value_at
  value_whole kind at len (unreadable e) q = bytes_from_none s at len e
  value_whole kind at len (text l u) q = uncut s at len l
  value_whole kind at len (number e) q = length-bytes_from s at len ∙ e
  value_whole kind at len (numbers m l) q =
      let n : length (singles_from s at (len / size_number)) ≡ len / size_number = singles_length s at (len / size_number) in
      let b : length (bytes_from s at len) ≡ len = length-bytes_from s at len in
      omega arith
  value_whole kind at len (plain_length_value e) q = length-bytes_from s at len ∙ e
  value_whole kind at len (color e) q = length-bytes_from s at len ∙ e
  value_whole kind at len (tries e) q = length-bytes_from s at len ∙ e
  value_whole kind at len (typed l) q = absurd (q refl)

  value_typed : (kind at len : ℕ) → kind ≡ kind_typed → ReadText (bytes_from s at len) → WholeText (value_at s kind at len) (bytes_from s at len)
  unfolding value_at
  value_typed kind at len e r =
      record {
        listed = r.listed;
        outcome = r.outcome;
        value = rw e (ap numbers_value (passing (bytes_from s at len) r.listed r.outcome).read);
      }

  attribute_whole : (at : ℕ) → InKindAt s at → ReadTextAt s at → WholeAt s at
  unfolding attribute_at
  attribute_whole at h r =
      record {
        typed = λ e. value_typed (attribute_kind_at s at) (value_place at) (attribute_length_at s at) e (r e);
        other = λ q. value_whole (attribute_kind_at s at) (value_place at) (attribute_length_at s at) h q;
      }

  attributes_whole : (ps : List ℕ) → Each (InKindAt s) ps → Each (ReadTextAt s) ps → Each (WholeAt s) ps
  attributes_whole [] h r = tt
  attributes_whole (p ∷ ps) h r = (attribute_whole p h.0 r.0, attributes_whole ps h.1 r.1)

  pub record_whole : (i : ℕ) → T (node_record_ok (node_record_at s i)) → Each (ReadTextAt s) (places_of s (offset_of s i)) → Each (WholeAt s) (places_of s (offset_of s i))
  record_whole i h r = attributes_whole (places_of s (offset_of s i)) (record_kinds s i h) r
