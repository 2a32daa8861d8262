-- For the code, which passes the parts of the layout one after the other: what is left after each. Definitions only.
use Rattle.std.specs.Prelude.{ℕ, List, [], ◌∷◌, Bool, true, false, Option, None, Some}
use Rattle.std.specs.Borrow.{Bor}
use Rattle.list_read.specs.Read.{Got, outside, got, read_byte, read_many, read_text}
use Rattle.list_read.specs.Layout.{Item, Field, item, enum, Arity, Layout, walk_item, walk_field}
use Rattle.list_read.specs.Records.{read_input, read_inputs, read_record}
use Rattle.list_read.specs.Forms.{form_of}
use Rattle.list_read.specs.Lists.{read_records, read_counted, read_list}
use Rattle.list_read.specs.declared.ListForm.{ListForm}

abbrev pub is_got : {A : Type 0} → Got A → Bool
is_got outside = false
is_got (got a r) = true

-- whether some bytes are a list in the layout, in a form; and the same of a record, of n records behind their pairs, and of what begins with the count

unfoldable pub in_layout : ListForm → List ℕ → Bool
in_layout f xs = is_got (read_list (form_of f) xs)

unfoldable pub record_in_layout : ListForm → List ℕ → Bool
record_in_layout f xs = is_got (read_record (form_of f) xs)

unfoldable pub records_in_layout : ListForm → ℕ → ℕ → List ℕ → List ℕ → Bool
records_in_layout f n at pairs xs = is_got (read_records (form_of f) n at pairs xs)

unfoldable pub counted_in_layout : ListForm → ℕ → List ℕ → Bool
counted_in_layout f before xs = is_got (read_counted (form_of f) before xs)

-- what the code reads from the front of some bytes, and the bytes behind it
abbrev pub got_of : {A : Type 0} → Option (A × Bor (List ℕ)) → Got A
got_of None = outside
got_of (Some read) = got read.0 read.1.now

abbrev pub rest_of : {A : Type 0} → Got A → Option (List ℕ)
rest_of outside = None
rest_of (got a r) = Some r

abbrev pub onward : (List ℕ → Option (List ℕ)) → Option (List ℕ) → Option (List ℕ)
onward f None = None
onward f (Some xs) = f xs

-- nothing is left
abbrev pub ended : Option (List ℕ) → Bool
ended None = false
ended (Some []) = true
ended (Some (x ∷ xs)) = false

-- n bytes, the items of the layout, and the fields of a kind

abbrev pub after_bytes : ℕ → Option (List ℕ) → Option (List ℕ)
after_bytes n o = onward (λ xs. rest_of (read_many read_byte n xs)) o

abbrev pub after_item : Item → Option (List ℕ) → Option (List ℕ)
after_item i o = onward (λ xs. rest_of (walk_item i xs)) o

abbrev pub after_items : List Item → Option (List ℕ) → Option (List ℕ)
after_items [] o = o
after_items (i ∷ is) o = after_items is (after_item i o)

abbrev pub after_enum : List (List Item) → Option (List ℕ) → Option (List ℕ)
after_enum cases o = onward (λ xs. rest_of (walk_field (enum cases) xs)) o

abbrev pub after_field : Field → Option (List ℕ) → Option (List ℕ)
after_field (item i) o = after_item i o
after_field (enum cases) o = after_enum cases o

abbrev pub after_fields : List Field → Option (List ℕ) → Option (List ℕ)
after_fields [] o = o
after_fields (f ∷ fs) o = after_fields fs (after_field f o)

abbrev pub after_kind_fields : Option Layout → Option (List ℕ) → Option (List ℕ)
after_kind_fields None o = None
after_kind_fields (Some l) o = after_fields l.fields o

-- a text, and the inputs

abbrev pub after_text : Option (List ℕ) → Option (List ℕ)
after_text o = onward (λ xs. rest_of (read_text xs)) o

abbrev pub after_reference : ListForm → Option (List ℕ) → Option (List ℕ)
after_reference f o = onward (λ xs. rest_of ((form_of f).read_reference xs)) o

abbrev pub after_input : ListForm → Option (List ℕ) → Option (List ℕ)
after_input f o = onward (λ xs. rest_of (read_input (form_of f) xs)) o

abbrev pub after_inputs : ListForm → Arity → Option (List ℕ) → Option (List ℕ)
after_inputs f a o = onward (λ xs. rest_of (read_inputs (form_of f) a xs)) o

abbrev pub after_kind_inputs : ListForm → Option Layout → Option (List ℕ) → Option (List ℕ)
after_kind_inputs f None o = None
after_kind_inputs f (Some l) o = after_inputs f l.inputs o
