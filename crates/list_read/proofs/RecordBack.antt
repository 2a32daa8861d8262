-- A record that is written is read back. Assumes nothing.
use Prim.Native.Nat.{ℕ, ◌<◌}
use native.Mathlib.Omega.{arith}
use mathlib.Core.Path.{◌≡◌, refl}
use mathlib.Core.List.{List, [], ◌∷◌, ◌++◌, append_assoc}
use mathlib.Core.Bool.{true}
use borrow.Author.Tests.{eqb-true, leb-true}
use lib.ListN.{length}
use Rattle.bits.specs.Bytes.{bytes16}
use Rattle.list_read.specs.Read.{got, read_many}
use Rattle.list_read.specs.Layout.{Arity, exactly, counted, layout_of}
use Rattle.tree.specs.Input.{InputOf, SourceGraphic, SourceAlpha, Reference, text_bytes}
use Rattle.tree.specs.List.{input_run}
use Rattle.list_read.specs.Records.{Form, ListRecord, read_input, read_inputs, read_kind, read_record}
use Rattle.list_read.specs.Write.{write_input, write_inputs, write_kind_inputs, write_record, arity_fits, input_fits, inputs_fit, InLayout}
use Rattle.list_read.proofs.Back.{read16_back, below_back, run_back_at}
use Rattle.std.proofs.lemmas.Bool.{and_parts}
use Rattle.list_read.proofs.Forms.{Lawful, text_reads}

module _ {R : Type 0} (f : Form R) (law : Lawful f) where
  input_back : (i : InputOf R) (r : List ℕ) → input_fits f i ≡ true → read_input f (write_input f i ++ r) ≡ got i r
  unfolding read_input
  input_back SourceGraphic r h = rw (below_back 0 3 r (omega arith))
  input_back SourceAlpha r h = rw (below_back 1 3 r (omega arith))
  input_back (Reference t) r h = rw (below_back 2 3 (f.write_reference t ++ r) (omega arith), law.back t r h)

  run_inputs : (is : List (InputOf R)) (r : List ℕ) → inputs_fit f is ≡ true → read_many (read_input f) (length is) (input_run (write_input f) is ++ r) ≡ got is r
  unfolding read_many input_run inputs_fit
  run_inputs [] r h = refl
  run_inputs (i ∷ is) r h =
      rw (append_assoc (write_input f i) (input_run (write_input f) is) r, input_back i (input_run (write_input f) is ++ r) (and_parts (input_fits f i) (inputs_fit f is) h).0, run_inputs is r (and_parts (input_fits f i) (inputs_fit f is) h).1)

  inputs_back : (a : Arity) (is : List (InputOf R)) (r : List ℕ) → arity_fits a (length is) ≡ true → inputs_fit f is ≡ true → read_inputs f a (write_inputs f a is ++ r) ≡ got is r
  unfolding read_inputs write_inputs
  inputs_back (exactly n) is r h k = rw (← eqb-true (length is) n h) (run_inputs is r k)
  inputs_back counted is r h k =
      let few : length is < 65536 = omega (arith, leb-true (length is) 511 h) in
      rw (append_assoc (bytes16 (length is)) (input_run (write_input f) is) r, read16_back (length is) (input_run (write_input f) is ++ r) few, h) (run_inputs is r k)

  pub record_back : (r : ListRecord R) → InLayout f r → read_record f (write_record f r) ≡ got r []
  unfolding read_record write_record read_kind
  record_back r g =
      rw (
        run_back_at r.rect (r.color_interpolation ∷ text_bytes r.result ++ (r.kind ∷ write_kind_inputs f (layout_of r.kind) r.inputs ++ r.fields)) 16 g.rect,
        below_back r.color_interpolation 2 (text_bytes r.result ++ (r.kind ∷ write_kind_inputs f (layout_of r.kind) r.inputs ++ r.fields)) g.color,
        text_reads r.result (r.kind ∷ write_kind_inputs f (layout_of r.kind) r.inputs ++ r.fields) g.result,
        g.known,
        inputs_back g.layout.inputs r.inputs r.fields g.arity g.inputs,
        g.fields,
      )
