-- A sheet whose call answers 0 has passed the tests of its bytes, so its list is made of what it gives (`read_as_given`). Assumes nothing.
use Rattle.answer.specs.declared.Refusal.{Refusal}
use Rattle.std.specs.Prelude.{Err, Ok, Result}
use Prim.Native.Nat.{ℕ}
use mathlib.Core.Path.{◌≡◌, refl, sym, ◌∙◌}
use mathlib.Core.List.{List}
use lib.ListN.{length}
use Rattle.answer.specs.Outcomes.{Outcome, unless_refused, outcome_number}
use Rattle.answer.specs.declared.Answer.{Answer}
use Rattle.answer.proofs.Laws.{never_zero}
use Rattle.svgtree.specs.Parse.{header_of, sheet_of}
use Rattle.sheet_check.specs.Refusals.{first_refusal}
use Rattle.sheet_accepted.specs.Given.{ReadAsGiven}
use Rattle.sheet_accepted.proofs.Given.{read_as_given}
use Rattle.region.specs.Region.{filter_region_of}
use Rattle.child.specs.Child.{Child}
use Rattle.zatongae.specs.Call.{in_region, outcome, Converted}

passed_at_zero : (c : Result (Unit {0}) Refusal) (x : Outcome (List Child)) → outcome_number (unless_refused c x) ≡ 0 → c ≡ Ok tt
passed_at_zero (Ok tt) x e = refl
passed_at_zero (Err why) x e = absurd (never_zero why e)

-- what the contract of the call says, with number 0, is enough
pub list_as_given : (s o : List ℕ) (r : Answer) (o' : List ℕ) → Converted s o r o' → r.number ≡ 0 → ReadAsGiven s
unfolding outcome
list_as_given s o r o' c z =
    read_as_given s
    (passed_at_zero (first_refusal s) (in_region (length o) (header_of s) (sheet_of s).nodes (filter_region_of (header_of s))) (sym c.answers.number ∙ z))
