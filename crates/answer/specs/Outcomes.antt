-- What comes of a call, and the number, the length and the output that say so. Every exported call's contract is made of these. Definitions only.
use Rattle.std.specs.Prelude.{ℕ, ◌≡◌, cond, List, ◌++◌, leb, length, drop, Err, Ok, Result}
use Rattle.answer.specs.Refusals.{refusal_number}
use Rattle.answer.specs.declared.Refusal.{Refusal}
use Rattle.answer.specs.declared.Refusal.TheVariants.{ShortOutput}
use Rattle.answer.specs.declared.Answer.{Answer}

-- refused, or given something: the children of a list, the kind of a function
pub data Outcome (A : Type 0) : Type 0 where
  refused : Refusal → Outcome A
  given : A → Outcome A

-- tests come first
abbrev pub unless_refused : {A : Type 0} → Result (Unit {0}) Refusal → Outcome A → Outcome A
unless_refused (Ok tt) x = x
unless_refused (Err r) x = refused r

-- "output shorter than the list" comes last: `room` is the output's length, `bytes` writes what is given
unfoldable pub in_room : {A : Type 0} → (A → List ℕ) → (room : ℕ) → A → Outcome A
in_room bytes room x = cond (leb (length (bytes x)) room) (given x) (refused ShortOutput)

-- 0 where something is given
abbrev pub outcome_number : {A : Type 0} → Outcome A → ℕ
outcome_number (refused r) = refusal_number r
outcome_number (given x) = 0

abbrev pub outcome_length : {A : Type 0} → (A → List ℕ) → Outcome A → ℕ
outcome_length bytes (refused r) = 0
outcome_length bytes (given x) = length (bytes x)

-- the output, which was o: a refusal leaves it; else the bytes of what is given stand at its front, and the rest is as it was
abbrev pub outcome_output : {A : Type 0} → (A → List ℕ) → Outcome A → (o : List ℕ) → List ℕ
outcome_output bytes (refused r) o = o
outcome_output bytes (given x) o = bytes x ++ drop (length (bytes x)) o

-- what a call made, as its answer: the length of what it wrote, or why it wrote nothing
abbrev pub answer_of : Result ℕ Refusal → Answer
answer_of (Ok n) = record { number = 0; length = n }
answer_of (Err r) = record { number = refusal_number r; length = 0 }

-- what a call answered, and what it left in the output, are this outcome's
pub record Answers {A : Type 0} (bytes : A → List ℕ) (x : Outcome A) (o : List ℕ) (r : Answer) (o' : List ℕ) : Type 0 where
  pub number : r.number ≡ outcome_number x
  pub length : r.length ≡ outcome_length bytes x
  pub output : o' ≡ outcome_output bytes x o
