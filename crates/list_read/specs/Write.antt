-- The writer of records and lists, and which of them it can write so that they are read back: what the theorems of the reader are about. No contract of
-- an exported call reaches these. Definitions only.
use Rattle.std.specs.Prelude.{ℕ, ◌<◌, ◌+◌, ◌*◌, ◌≤◌, List, [], ◌∷◌, ◌++◌, Bool, true, ◌&&◌, ◌≡◌, length, leb, eqb, None, Option, Some}
use Rattle.bits.specs.Bytes.{bytes16, bytes32}
use Rattle.tree.specs.Input.{InputOf, SourceGraphic, SourceAlpha, Reference, text_bytes, input_bytes_with}
use Rattle.tree.specs.List.{input_run}
use Rattle.list_read.specs.Records.{Form, ListRecord, text_fits}
use Rattle.list_read.specs.Layout.{Arity, exactly, counted, most_inputs, Layout, layout_of, walk_fields, at_end}

module _ {R : Type 0} (f : Form R) where
  abbrev pub write_input : InputOf R → List ℕ
  write_input i = input_bytes_with f.write_reference i

  unfoldable pub write_inputs : Arity → List (InputOf R) → List ℕ
  write_inputs (exactly n) is = input_run write_input is
  write_inputs counted is = bytes16 (length is) ++ input_run write_input is

  abbrev pub write_kind_inputs : Option Layout → List (InputOf R) → List ℕ
  write_kind_inputs None is = []
  write_kind_inputs (Some l) is = write_inputs l.inputs is

  unfoldable pub write_record : ListRecord R → List ℕ
  write_record r =
      r.rect ++ (r.color_interpolation ∷ text_bytes r.result ++ (r.kind ∷ write_kind_inputs (layout_of r.kind) r.inputs ++ r.fields))

-- Which records are in the layout: those that can be written and read back

abbrev pub arity_fits : Arity → ℕ → Bool
arity_fits (exactly n) k = eqb k n
arity_fits counted k = leb k most_inputs

abbrev pub input_fits : {R : Type 0} → Form R → InputOf R → Bool
input_fits f SourceGraphic = true
input_fits f SourceAlpha = true
input_fits f (Reference t) = f.reference_fits t

unfoldable pub inputs_fit : {R : Type 0} → Form R → List (InputOf R) → Bool
inputs_fit f [] = true
inputs_fit f (i ∷ is) = input_fits f i && inputs_fit f is

pub record InLayout {R : Type 0} (f : Form R) (r : ListRecord R) : Type 0 where
  pub layout : Layout
  pub known : layout_of r.kind ≡ Some layout
  pub rect : length r.rect ≡ 16
  pub color : r.color_interpolation < 2
  pub result : text_fits r.result ≡ true
  pub arity : arity_fits layout.inputs (length r.inputs) ≡ true
  pub inputs : inputs_fit f r.inputs ≡ true
  pub fields : at_end (walk_fields layout.fields r.fields) ≡ true

module _ {R : Type 0} (f : Form R) where
  unfoldable pub write_pairs : ℕ → List (ListRecord R) → List ℕ
  write_pairs at [] = []
  write_pairs at (r ∷ rs) = bytes32 at ++ (bytes32 (length (write_record f r)) ++ write_pairs (at + length (write_record f r)) rs)

  unfoldable pub write_records : List (ListRecord R) → List ℕ
  write_records [] = []
  write_records (r ∷ rs) = write_record f r ++ write_records rs

  unfoldable pub write_list : List (ListRecord R) → List ℕ
  write_list rs = f.opening ++ (bytes16 (length rs) ++ (write_pairs (length f.opening + 2 + 8 * length rs) rs ++ write_records rs))

unfoldable pub AllInLayout : {R : Type 0} → Form R → List (ListRecord R) → Type 0
AllInLayout f [] = Unit {0}
AllInLayout f (r ∷ rs) = InLayout f r × AllInLayout f rs

-- a list in the layout: it can be written and read back
pub record ListInLayout {R : Type 0} (f : Form R) (rs : List (ListRecord R)) : Type 0 where
  pub few : length rs ≤ 512
  pub each : AllInLayout f rs
