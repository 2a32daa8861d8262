-- The list of the children in the tables: its length and its bytes by the tables' parts, and the answers "no primitive", "output shorter than the list" and
-- the list. Assumes nothing.
use mathlib.Core.Path.{◌≡◌, refl, sym, ap, subst, ◌∙◌}
use mathlib.Core.List.{List, [], ◌∷◌, ◌++◌, map}
use Prim.Native.Nat.{ℕ, ◌+◌, ◌*◌, ◌≤◌, ◌<◌}
use native.Mathlib.Omega.{arith}
use native.Mathlib.Nat.{zero-add}
use lib.ListN.{length, take, drop, length-append, length-map}
use lib.Seq.{length-take-le}
use Rattle.answer.specs.Refusals.{refusal_number}
use Rattle.answer.specs.Outcomes.{refused, given, Answers}
use Rattle.answer.specs.declared.Answer.{Answer}
use Rattle.answer.specs.declared.Refusal.TheVariants.{NoPrimitive, ShortOutput}
use Rattle.answer.proofs.Laws.{refused_by, given_by, in_room_lem, out_of_room}
use Rattle.bits.specs.Bytes.{bytes16}
use Rattle.bits.specs.Writer.{Writes}
use Rattle.bits.specs.declared.writer.Writer.{Writer}
use Rattle.bits.proofs.Patches.{patch_parts}
use Rattle.bits.proofs.Writing.{◌then◌, put_writes}
use Rattle.tree.specs.List.{primitive_size, pairs_bytes, records_bytes, list_bytes}
use Rattle.tree.specs.Sizes.{total}
use Rattle.tree.proofs.Lengths.{length_list}
use Rattle.tree.proofs.Pairs.{length_pairs}
use Rattle.region.specs.declared.Frame.{Frame}
use Rattle.child.specs.Child.{Child}
use Rattle.results.specs.declared.FilterResults.{FilterResults}
use Rattle.naming.specs.Names.{start}
use Rattle.list_primitives.specs.Primitives.{primitives}
use Rattle.list_records.specs.Tables.{records_up_to, Measures, children_is}
use Rattle.list_records.proofs.Laws.{records_are, sizes_are}
use Rattle.list_within.proofs.ListsFit.{one_each}
use Rattle.convert.specs.Children.{list_of, fit}
use Rattle.convert.specs.Plans.{Planned}

fit_no : (room : ℕ) (cs : List Child) → 0 < length cs → room < length (list_of cs) → fit room cs ≡ refused ShortOutput
unfolding fit
fit_no room [] z h = absurd (omega arith)
fit_no room (c ∷ cs) z h = out_of_room list_of room (c ∷ cs) h

fit_yes : (room : ℕ) (cs : List Child) → 0 < length cs → length (list_of cs) ≤ room → fit room cs ≡ given cs
unfolding fit
fit_yes room [] z h = absurd (omega arith)
fit_yes room (c ∷ cs) z h = in_room_lem list_of room (c ∷ cs) h

-- no children
pub answers_none : (frame : Frame) (s nodes : List ℕ) (k : ℕ) (o : List ℕ) (r : Answer) → k ≡ 0 → (r.number ≡ refusal_number NoPrimitive) × (r.length ≡ 0)
    → Answers list_of (fit (length o) (children_is frame s nodes k)) o r o
unfolding fit
answers_none frame s nodes k o r z q = refused_by list_of o r (fit (length o) (children_is frame s nodes k)) NoPrimitive (rw z refl) q

module _ {frame : Frame} {s nodes names table : List ℕ} {f : FilterResults} {sum : ℕ} (p : Planned frame s nodes names f)
    (measured : Measures frame s nodes names table f.count sum) where
  abbrev children : List Child
  children = children_is frame s nodes f.count

  pub fits : f.count ≤ length nodes
  fits = omega (arith, p.long, p.named.state.table.few)

  children_count : length children ≡ f.count
  children_count = length-map (take f.count nodes) _ ∙ length-take-le f.count nodes fits

  -- one record for each child
  counted : length (primitives children) ≡ f.count
  counted = one_each start children ∙ children_count

  sizes : take f.count table ≡ map primitive_size (primitives children)
  sizes = measured.sizes ∙ sizes_are frame s nodes names f f.count fits p.named refl f.count (omega arith)

  run : records_up_to frame s nodes names f.count ≡ records_bytes (primitives children)
  run = records_are frame s nodes names f f.count fits p.named refl f.count (omega arith)

  -- the list is its count, the pairs of the table of sizes, and the records of the tables
  list_parts : list_of children ≡ bytes16 f.count ++ pairs_bytes (2 + 8 * f.count) (take f.count table) ++ records_up_to frame s nodes names f.count
  unfolding list_bytes
  list_parts = rw (counted, sizes, run) refl

  pub sized : length (take f.count table) ≡ f.count
  sized = ap length sizes ∙ length-map (primitives children) primitive_size ∙ counted

  pub list_length : length (list_of children) ≡ 2 + 8 * f.count + sum
  unfolding bytes16
  list_length = ap length list_parts ∙ simp (length-append, length_pairs, sized) (omega (arith, measured.total))

  -- the offsets behind the list's head stay small
  pub total_sizes : total (take f.count table) ≡ sum
  total_sizes = omega (arith, list_length, length_list (primitives children), counted, ap total sizes)

  -- three writers in a row write the list at the output's start, and leave the rest
  pub written : {o : List ℕ} {w w₁ w₂ w₃ : Writer} → w.at ≡ 0 → w.out.now ≡ o → length (list_of children) ≤ length o
      → Writes w 2 (bytes16 f.count) w₁
      → Writes w₁ (8 * f.count) (pairs_bytes (2 + 8 * f.count) (take f.count table)) w₂
      → Writes w₂ (length (records_up_to frame s nodes names f.count)) (records_up_to frame s nodes names f.count) w₃
      → w₃.out.now ≡ list_of children ++ drop (length (list_of children)) o
  written {o} {w} {w₁} {w₂} {w₃} front same h p q r =
      let long : length (list_of children) ≡ 2 + 8 * f.count + length (records_up_to frame s nodes names f.count) = omega (arith, list_length, measured.total) in
      let whole = subst (λ (xs : List ℕ). Writes w (2 + 8 * f.count + length (records_up_to frame s nodes names f.count)) xs w₃) (sym list_parts) (p then q then r) in
      let put = put_writes w w₃ _ _ whole (omega (arith, front, ap length same, h, long)) in
      put.put ∙ rw (front, same) (patch_parts o 0 (list_of children) (omega (arith, h)) ∙ ap (λ (k : ℕ). list_of children ++ drop k o) (zero-add (length (list_of children))))

  -- no room, and the list

  pub answers_short : (o : List ℕ) (r : Answer) → 0 < f.count → length o < length (list_of children)
      → (r.number ≡ refusal_number ShortOutput) × (r.length ≡ 0) → Answers list_of (fit (length o) children) o r o
  answers_short o r z h q = refused_by list_of o r (fit (length o) children) ShortOutput (fit_no (length o) children (omega (arith, children_count)) h) q

  pub answers_list : (o o' : List ℕ) (r : Answer) → 0 < f.count → length (list_of children) ≤ length o
      → (r.number ≡ 0) × (r.length ≡ length (list_of children)) → o' ≡ list_of children ++ drop (length (list_of children)) o
      → Answers list_of (fit (length o) children) o r o'
  answers_list o o' r z h q w = given_by list_of o r o' (fit (length o) children) children (fit_yes (length o) children (omega (arith, children_count)) h) q w
