-- A record that is read is what was written. Assumes nothing.
use Rattle.std.specs.Prelude.{None, Option, Some}
use Prim.Native.Nat.{ℕ, zero, suc, ◌<◌}
use native.Mathlib.Omega.{arith}
use mathlib.Core.Path.{◌≡◌, refl, sym, ap, ◌∙◌, subst}
use mathlib.Core.List.{List, [], ◌∷◌, ◌++◌}
use mathlib.Core.Bool.{true}
use borrow.Author.Tests.{eq-eqb}
use lib.Dec.{leb}
use lib.ListN.{length}
use Rattle.bits.specs.Bytes.{bytes16}
use Rattle.list_read.specs.Read.{read_byte, read_below, read16, read_many, read_text}
use Rattle.list_read.specs.Layout.{Arity, exactly, counted, Layout, layout_of, walk_fields, at_end}
use Rattle.tree.specs.Input.{Name, InputOf, text_bytes}
use Rattle.tree.specs.List.{input_run}
use Rattle.list_read.specs.Records.{Form, ListRecord, text_fits, read_input, input_case, read_inputs, read_kind, read_record}
use Rattle.list_read.specs.Write.{write_input, write_inputs, write_record, arity_fits, input_fits, inputs_fit, InLayout}
use Rattle.list_read.proofs.Forth.{Holds, holds_then, holds_only_if, AllBytes, Front, fronts, byte_forth, below_forth, read16_forth, run_forth}
use Rattle.std.proofs.lemmas.Bool.{and_from}
use Rattle.list_read.proofs.Forms.{Lawful, text_read, holds_map}

module _ {R : Type 0} (f : Form R) (law : Lawful f) where
  case_forth : (k : ℕ) (r : List ℕ) → k < 3 → AllBytes r → Holds (λ i r'. (input_fits f i ≡ true) × Front (k ∷ r) (write_input f i) r') (input_case f k r)
  case_forth zero r h b = (refl, record { split = refl; rest = b })
  case_forth (suc zero) r h b = (refl, record { split = refl; rest = b })
  case_forth (suc (suc zero)) r h b =
      holds_then _ _ (f.read_reference r) _ (law.forth r b)
      (λ t r' p. (p.0, record { split = ap (λ (l : List ℕ). 2 ∷ l) p.1.split; rest = p.1.rest }))
  case_forth (suc (suc (suc k))) r h b = absurd (omega arith)

  input_forth : (xs : List ℕ) → AllBytes xs → Holds (λ i r. (input_fits f i ≡ true) × Front xs (write_input f i) r) (read_input f xs)
  unfolding read_input
  input_forth xs h =
      holds_then _ _ (read_below 3 xs) _ (below_forth 3 xs h)
      (λ k r p. subst (λ (ys : List ℕ). Holds (λ i r'. (input_fits f i ≡ true) × Front ys (write_input f i) r') (input_case f k r)) (sym p.1.split) (case_forth k r p.0 p.1.rest))

  run_inputs : (n : ℕ) (xs : List ℕ) → AllBytes xs → Holds (λ is r. (length is ≡ n) × (inputs_fit f is ≡ true) × Front xs (input_run (write_input f) is) r) (read_many (read_input f) n xs)
  unfolding read_many input_run inputs_fit
  run_inputs zero xs h = (refl, refl, record { split = refl; rest = h })
  run_inputs (suc n) xs h =
      holds_then _ _ (read_input f xs) _ (input_forth xs h)
      (λ i r p. holds_then _ _ (read_many (read_input f) n r) _ (run_inputs n r p.1.rest)
      (λ is r' q. (ap suc q.0, and_from _ _ p.0 q.1, fronts p.1 q.2)))

  inputs_forth : (a : Arity) (xs : List ℕ) → AllBytes xs → Holds (λ is r. (arity_fits a (length is) ≡ true) × (inputs_fit f is ≡ true) × Front xs (write_inputs f a is) r) (read_inputs f a xs)
  unfolding read_inputs write_inputs
  inputs_forth (exactly n) xs h =
      holds_map _ _ (read_many (read_input f) n xs) (λ is r p. (eq-eqb (length is) n p.0, p.1, p.2)) (run_inputs n xs h)
  inputs_forth counted xs h =
      holds_then _ _ (read16 xs) _ (read16_forth xs h)
      (λ n r p. holds_only_if _ (leb n 511) _
      (λ few. holds_map _ _ (read_many (read_input f) n r)
      (λ is r' q. (rw q.0 few, q.1, fronts (subst (λ (k : ℕ). Front xs (bytes16 k) r) (sym q.0) p.1) q.2))
      (run_inputs n r p.1.rest)))

  record_is : (xs rect : List ℕ) (color : ℕ) (result : Name) (kind : ℕ) (r₄ : List ℕ) (is : List (InputOf R)) (r₅ : List ℕ) (l : Layout) → layout_of kind ≡ Some l → xs ≡ rect ++ (color ∷ text_bytes result ++ (kind ∷ r₄)) → r₄ ≡ write_inputs f l.inputs is ++ r₅ → xs ≡ write_record f (record { rect = rect; color_interpolation = color; result = result; kind = kind; inputs = is; fields = r₅ })
  unfolding write_record
  record_is xs rect color result kind r₄ is r₅ l e w s = rw e (w ∙ ap (λ (ys : List ℕ). rect ++ (color ∷ text_bytes result ++ (kind ∷ ys))) s)

  -- what is read of some bytes as a record is good, and its bytes are these
  abbrev pub Read : List ℕ → ListRecord R → List ℕ → Type 0
  Read xs r rest = InLayout f r × (rest ≡ []) × (xs ≡ write_record f r)

  module _ (xs rect : List ℕ) (color : ℕ) (result : Name) (kind : ℕ) (r₄ : List ℕ) (b : AllBytes r₄) (long : length rect ≡ 16) (c : color < 2) (fits : text_fits result ≡ true)
      (whole : xs ≡ rect ++ (color ∷ text_bytes result ++ (kind ∷ r₄))) where
    kind_forth : (o : Option Layout) → layout_of kind ≡ o → Holds (Read xs) (read_kind f o rect color result kind r₄)
    unfolding read_kind
    kind_forth None e = tt
    kind_forth (Some l) e =
        holds_then _ _ (read_inputs f l.inputs r₄) _ (inputs_forth l.inputs r₄ b)
        (λ is r₅ p. holds_only_if _ (at_end (walk_fields l.fields r₅)) _
        (λ end. (good is r₅ p.0 p.1 end, refl, same is r₅ p.2.split)))
      where
        good : (is : List (InputOf R)) (r₅ : List ℕ) → arity_fits l.inputs (length is) ≡ true → inputs_fit f is ≡ true → at_end (walk_fields l.fields r₅) ≡ true → InLayout f (record { rect = rect; color_interpolation = color; result = result; kind = kind; inputs = is; fields = r₅ })
        good is r₅ a i end = record { layout = l; known = e; rect = long; color = c; result = fits; arity = a; inputs = i; fields = end }

        same : (is : List (InputOf R)) (r₅ : List ℕ) → r₄ ≡ write_inputs f l.inputs is ++ r₅ → xs ≡ write_record f (record { rect = rect; color_interpolation = color; result = result; kind = kind; inputs = is; fields = r₅ })
        same is r₅ s = record_is xs rect color result kind r₄ is r₅ l e whole s

  pub record_forth : (xs : List ℕ) → AllBytes xs → Holds (Read xs) (read_record f xs)
  unfolding read_record
  record_forth xs h =
      holds_then _ _ (read_many read_byte 16 xs) _ (run_forth 16 xs h)
      (λ rect r₁ p. holds_then _ _ (read_below 2 r₁) _ (below_forth 2 r₁ p.2.rest)
      (λ color r₂ q. holds_then _ _ (read_text r₂) _ (text_read r₂ q.1.rest)
      (λ result r₃ t. holds_then _ _ (read_byte r₃) _ (byte_forth r₃ t.1.rest)
      (λ kind r₄ k.
      kind_forth xs rect color result kind r₄ k.1.rest p.0 q.0 t.0
      (p.2.split ∙ ap (λ (l : List ℕ). rect ++ l) (q.1.split ∙ ap (λ (l : List ℕ). color ∷ l) (t.1.split ∙ ap (λ (l : List ℕ). text_bytes result ++ l) k.1.split)))
      (layout_of kind) refl))))
