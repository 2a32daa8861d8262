-- A record of a list as bits and bytes, and how it is read, over the form of the list: what a reference is. Definitions only.
use Rattle.std.specs.Prelude.{ℕ, zero, suc, List, [], Bool, ◌&&◌, leb, length, None, Option, Some}
use Rattle.bits.specs.Utf8.{utf8}
use Rattle.tree.specs.Input.{Name, InputOf, SourceGraphic, SourceAlpha, Reference, text_bytes}
use Rattle.list_read.specs.Read.{Got, outside, got, and_then, only_if, read_byte, read_below, read16, read_many, read_text}
use Rattle.list_read.specs.Layout.{Arity, exactly, counted, most_inputs, Layout, layout_of, walk_fields, at_end}

-- a form: the bytes before the count; how a reference is read and written; and which references can be written
pub record Form (R : Type 0) : Type 0 where
  pub opening : List ℕ
  pub read_reference : List ℕ → Got R
  pub write_reference : R → List ℕ
  pub reference_fits : R → Bool

abbrev pub text_fits : Name → Bool
text_fits t = leb (length t) 255 && utf8 t

-- form 1, in which the converter writes: a reference is a name
abbrev pub form1 : Form Name
form1 = record { opening = []; read_reference = read_text; write_reference = text_bytes; reference_fits = text_fits }

-- a record: the sixteen bytes of x, y, width and height; the place of its colour interpolation; its name; the place of its kind; the kind's inputs, and
-- the bytes of its other fields
pub record ListRecord (R : Type 0) : Type 0 where
  pub rect : List ℕ
  pub color_interpolation : ℕ
  pub result : Name
  pub kind : ℕ
  pub inputs : List (InputOf R)
  pub fields : List ℕ

module _ {R : Type 0} (f : Form R) where
  -- an input: the place of its case, and then the reference
  abbrev pub input_case : ℕ → List ℕ → Got (InputOf R)
  input_case zero r = got SourceGraphic r
  input_case (suc zero) r = got SourceAlpha r
  input_case (suc (suc k)) r = and_then (f.read_reference r) (λ t r'. got (Reference t) r')

  unfoldable pub read_input : List ℕ → Got (InputOf R)
  read_input xs = and_then (read_below 3 xs) (λ k r. input_case k r)

  unfoldable pub read_inputs : Arity → List ℕ → Got (List (InputOf R))
  read_inputs (exactly n) xs = read_many read_input n xs
  read_inputs counted xs = and_then (read16 xs) (λ n r. only_if (leb n most_inputs) (read_many read_input n r))

  -- the inputs and the other fields of a kind, which end the record
  unfoldable pub read_kind : Option Layout → List ℕ → ℕ → Name → ℕ → List ℕ → Got (ListRecord R)
  read_kind None rect color result kind xs = outside
  read_kind (Some l) rect color result kind xs =
      and_then (read_inputs l.inputs xs)
      (λ is r.
      only_if (at_end (walk_fields l.fields r))
      (got (record { rect = rect; color_interpolation = color; result = result; kind = kind; inputs = is; fields = r }) []))

  -- "A record holds `Primitive`'s fields in declaration order": all of some bytes as one record
  unfoldable pub read_record : List ℕ → Got (ListRecord R)
  read_record xs =
      and_then (read_many read_byte 16 xs)
      (λ rect r₁. and_then (read_below 2 r₁)
      (λ color r₂. and_then (read_text r₂)
      (λ result r₃. and_then (read_byte r₃)
      (λ kind r₄. read_kind (layout_of kind) rect color result kind r₄))))
