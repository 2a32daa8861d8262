-- A record, by what is left after its parts. Assumes nothing.
use Rattle.std.proofs.lemmas.List.{get_or_past}
use Rattle.std.proofs.Common.{ℕ, ◌<◌, ◌⊎◌, inl, inr, ◌≡◌, refl, sym, ap, ◌∙◌, List, [], ◌∷◌, ◌++◌, Bool, true, false, length, Option, None, Some, arith}
use Rattle.list_read.specs.Read.{Got, outside, got, and_then, only_if, read_byte, read_below, read_many, read_text}
use Rattle.list_read.specs.Layout.{byte_below, Field, item, enum, Layout, layouts, layout_of, walk_item, walk_field, walk_fields, at_end}
use Rattle.tree.specs.Input.{Name}
use Rattle.list_read.specs.Records.{read_inputs, read_kind, read_record}
use Rattle.list_read.specs.Forms.{form_of}
use Rattle.list_layout.specs.After.{rest_of, is_got, after_bytes, after_item, after_field, after_fields, after_kind_fields, after_text, after_kind_inputs, ended, record_in_layout}
use Rattle.list_read.specs.declared.ListForm.{ListForm}
use Rattle.list_layout.proofs.Walking.{rest_then}

-- whether something is read goes by what is left after its first part
pub is_then : {A B : Type 0} (g : Got A) (f : A → List ℕ → Got B) (F : Option (List ℕ) → Bool) → F None ≡ false → ((a : A) (r : List ℕ) → is_got (f a r) ≡ F (Some r)) → is_got (and_then g f) ≡ F (rest_of g)
is_then outside f F h k = sym h
is_then (got a r) f F h k = k a r

is_only_if : {A : Type 0} (b : Bool) (a : A) (r : List ℕ) → is_got (only_if b (got a r)) ≡ b
is_only_if true a r = refl
is_only_if false a r = refl

-- fields

field_none : (f : Field) → after_field f None ≡ None
field_none (item i) = refl
field_none (enum cases) = refl

field_some : (f : Field) (xs : List ℕ) → after_field f (Some xs) ≡ rest_of (walk_field f xs)
unfolding walk_field
field_some (item i) xs = refl
field_some (enum cases) xs = refl

fields_none : (fs : List Field) → after_fields fs None ≡ None
fields_none [] = refl
fields_none (f ∷ fs) = ap (after_fields fs) (field_none f) ∙ fields_none fs

fields_then : (fs : List Field) (g : Got (List ℕ)) → ((r : List ℕ) → after_fields fs (Some r) ≡ rest_of (walk_fields fs r)) → after_fields fs (rest_of g) ≡ rest_of (and_then g (λ ns r. and_then (walk_fields fs r) (λ ms r'. got (ns ++ ms) r')))
fields_then fs outside h = fields_none fs
fields_then fs (got ns r) h = h r ∙ sym (rest_then (walk_fields fs r) (λ ms. ns ++ ms))

fields_after : (fs : List Field) (xs : List ℕ) → after_fields fs (Some xs) ≡ rest_of (walk_fields fs xs)
unfolding walk_fields
fields_after [] xs = refl
fields_after (f ∷ fs) xs = ap (after_fields fs) (field_some f xs) ∙ fields_then fs (walk_field f xs) (fields_after fs)

end_is : {A : Type 0} (g : Got A) → at_end g ≡ ended (rest_of g)
end_is outside = refl
end_is (got a []) = refl
end_is (got a (x ∷ r)) = refl

-- behind no place there are no fields
pub kind_none : (o : Option Layout) → ended (after_kind_fields o None) ≡ false
kind_none None = refl
kind_none (Some l) = ap ended (fields_none l.fields)

-- a record, by what is left

module _ (form : ListForm) where
  abbrev pub kind_end : Option (List ℕ) → Bool
  kind_end None = false
  kind_end (Some []) = false
  kind_end (Some (k ∷ r)) = ended (after_kind_fields (layout_of k) (after_kind_inputs form (layout_of k) (Some r)))

  kind_ok : (o : Option Layout) (rect : List ℕ) (color : ℕ) (result : Name) (kind : ℕ) (xs : List ℕ) → is_got (read_kind (form_of form) o rect color result kind xs) ≡ ended (after_kind_fields o (after_kind_inputs form o (Some xs)))
  unfolding read_kind
  kind_ok None rect color result kind xs = refl
  kind_ok (Some l) rect color result kind xs =
      is_then (read_inputs (form_of form) l.inputs xs) _ (λ o. ended (after_fields l.fields o)) (ap ended (fields_none l.fields))
      (λ is r. is_only_if (at_end (walk_fields l.fields r)) _ _ ∙ end_is (walk_fields l.fields r) ∙ ap ended (sym (fields_after l.fields r)))

  byte_ok : (rect : List ℕ) (color : ℕ) (result : Name) (xs : List ℕ) → is_got (and_then (read_byte xs) (λ kind r₄. read_kind (form_of form) (layout_of kind) rect color result kind r₄)) ≡ kind_end (Some xs)
  byte_ok rect color result [] = refl
  byte_ok rect color result (k ∷ r) = kind_ok (layout_of k) rect color result k r

  text_ok : (rect : List ℕ) (color : ℕ) (xs : List ℕ) → is_got (and_then (read_text xs) (λ result r₃. and_then (read_byte r₃) (λ kind r₄. read_kind (form_of form) (layout_of kind) rect color result kind r₄))) ≡ kind_end (after_text (Some xs))
  text_ok rect color xs = is_then (read_text xs) _ kind_end refl (λ result r. byte_ok rect color result r)

  color_ok : (rect xs : List ℕ) → is_got (and_then (read_below 2 xs) (λ color r₂. and_then (read_text r₂) (λ result r₃. and_then (read_byte r₃) (λ kind r₄. read_kind (form_of form) (layout_of kind) rect color result kind r₄)))) ≡ kind_end (after_text (after_item (byte_below 2) (Some xs)))
  unfolding walk_item
  color_ok rect xs =
      is_then (read_below 2 xs) _ (λ o. kind_end (after_text o)) refl (λ color r. text_ok rect color r)
      ∙ ap (λ (o : Option (List ℕ)). kind_end (after_text o)) (sym (rest_then (read_below 2 xs) (λ b. [])))

  pub record_is : (xs : List ℕ) → record_in_layout form xs ≡ kind_end (after_text (after_item (byte_below 2) (after_bytes 16 (Some xs))))
  unfolding record_in_layout read_record
  record_is xs = is_then (read_many read_byte 16 xs) _ (λ o. kind_end (after_text (after_item (byte_below 2) o))) refl (λ rect r. color_ok rect r)

  -- without a byte there is no kind
  pub kind_missing : (xs : List ℕ) → length xs ≡ 0 → kind_end (Some xs) ≡ false
  kind_missing [] h = refl
  kind_missing (k ∷ xs) h = absurd (omega arith)

-- Image and the bytes behind the last place are outside the layout
pub unknown_outside : (k : ℕ) → (k ≡ 10) ⊎ (16 < k) → layout_of k ≡ None
unfolding layout_of
unknown_outside k h = elim h [ inl e ↦ rw e refl | inr past ↦ get_or_past layouts k None past ]

pub ruleset record_parts = (record_is, kind_none, kind_missing, unknown_outside)
