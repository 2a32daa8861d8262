-- Twins are answered the same: past the layout and the typed lists a call looks at the node count and at what the sheet says alone. Assumes nothing.
use Rattle.answer.specs.declared.Refusal.{Refusal}
use Rattle.std.specs.Prelude.{Err, Result}
use Prim.Native.Nat.{ℕ, ◌≤◌}
use native.Mathlib.Omega.{arith}
use mathlib.Core.Path.{◌≡◌, refl, sym, ap, ap₂, ◌∙◌}
use mathlib.Core.Bool.{true, cond}
use mathlib.Core.List.{List}
use lib.Dec.{ltb}
use lib.ListN.{length, take, drop}
use lib.Seq.{take-append_seam}
use borrow.Author.Tests.{le-ltb}
use Rattle.answer.specs.Outcomes.{Outcome, refused, given, unless_refused, outcome_length, outcome_output, Answers}
use Rattle.answer.specs.declared.Answer.{Answer}
use Rattle.answer.specs.declared.Refusal.TheVariants.{TooLarge}
use Rattle.answer.proofs.Laws.{answers_as}
use Rattle.sheet_fields.specs.Fields.{header_pairs}
use Rattle.svgtree.specs.Values.{Sheet}
use Rattle.svgtree.specs.Parse.{count_of, pair_place, sheet_of}
use Rattle.sheet_layout.specs.Layout.{layout_ok}
use Rattle.sheet_layout.proofs.Offsets.{pairs_within}
use Rattle.sheet_check.specs.Texts.{grammar_ok, limits_ok}
use Rattle.sheet_check.specs.Refusals.{too_large, values_refusal, first_refusal}
use Rattle.region.specs.Region.{filter_region_of}
use Rattle.convert.specs.Children.{list_of}
use Rattle.zatongae.specs.Call.{in_region, outcome, Converted}
use Rattle.twins.specs.Twins.{Twins, SameAnswer}
use Rattle.twins.proofs.Sheets.{count_same, sheet_same, passes, twin_passes}

-- the tests of the bytes that are left in the layout, within the size, where the typed lists pass
abbrev tests_left : (count : ℕ) → Sheet → Result (Unit {0}) Refusal
tests_left count sheet = cond (ltb 512 count) (Err TooLarge) (values_refusal sheet)

tests_left_lem : (s : List ℕ) → layout_ok s ≡ true → length s ≤ 65536 → (grammar_ok s ≡ true) × (limits_ok s ≡ true) → first_refusal s ≡ tests_left (count_of s) (sheet_of s)
unfolding first_refusal too_large
tests_left_lem s ok short p =
    let pairs : pair_place (count_of s) ≤ length s = pairs_within s (rw ok tt) in
    rw (le-ltb (length s) header_pairs (omega arith), le-ltb 65536 (length s) short, ok, p.0, p.1)

-- ---- two answers to one outcome

list_same : {A : Type 0} (bytes : A → List ℕ) (x : Outcome A) (o p : List ℕ)
    → take (outcome_length bytes x) (outcome_output bytes x o) ≡ take (outcome_length bytes x) (outcome_output bytes x p)
list_same bytes (refused why) o p = refl
list_same bytes (given v) o p =
    let n = length (bytes v) in
    take-append_seam (bytes v) (drop n o) ∙ sym (take-append_seam (bytes v) (drop n p))

answer_same : {A : Type 0} (bytes : A → List ℕ) (x : Outcome A) (o p : List ℕ) (r q : Answer) (o' p' : List ℕ) → Answers bytes x o r o' → Answers bytes x p q p'
    → SameAnswer r o' q p'
answer_same bytes x o p r q o' p' a b =
    record {
      number = a.number ∙ sym b.number;
      length = a.length ∙ sym b.length;
      list = rw (a.length, b.length, a.output, b.output) (list_same bytes x o p);
    }

-- ---- the call

module _ (s t : List ℕ) (w : Twins s t) where
  pub refusal_same : first_refusal s ≡ first_refusal t
  refusal_same =
      tests_left_lem s w.layout w.size (passes s t w)
      ∙ ap₂ tests_left (count_same s t w) (sheet_same s t w)
      ∙ sym (tests_left_lem t w.twin_layout w.twin_size (twin_passes s t w))

  pub outcome_same : (room : ℕ) → outcome s room ≡ outcome t room
  unfolding outcome sheet_of
  outcome_same room =
      ap₂ (λ (c : Result (Unit {0}) Refusal) (sheet : Sheet). unless_refused c (in_region room sheet.header sheet.nodes (filter_region_of sheet.header)))
      refusal_same (sheet_same s t w)

  -- what the contract of the call says of both, with outputs of one length, is enough
  pub twins : (o p : List ℕ) → length o ≡ length p → (r q : Answer) (o' p' : List ℕ) → Converted s o r o' → Converted t p q p' → SameAnswer r o' q p'
  twins o p n r q o' p' c d =
      let e : outcome s (length o) ≡ outcome t (length p) = outcome_same (length o) ∙ ap (outcome t) n in
      answer_same list_of (outcome s (length o)) o p r q o' p' c.answers (answers_as list_of p q p' e d.answers)
