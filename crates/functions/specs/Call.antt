-- The whole call for a function record: its number, its length, its output, and what holds of the kind that is given. Definitions only.
use Rattle.std.specs.Prelude.{ℕ, ◌≡◌, List, ◌++◌, length, drop}
use Rattle.answer.specs.Outcomes.{Outcome, unless_refused, in_room, Answers}
use Rattle.answer.specs.declared.Answer.{Answer}
use Rattle.tree.specs.Input.{Input}
use Rattle.tree.specs.Kinds.{Kind}
use Rattle.tree.specs.List.{kind_bytes}
use Rattle.functions.specs.Records.{function_record}
use Rattle.functions.specs.Functions.{function_kind}
use Rattle.functions.specs.Refusals.{function_refusal}
use Rattle.functions.specs.Ranges.{FunctionRange}

-- what comes of a record's bytes, with an output of so many bytes: "Functions give 2, 3 and 9 only", in that order
unfoldable pub function_outcome : List ℕ → ℕ → Outcome (Kind Input)
function_outcome s room = unless_refused (function_refusal s) (in_room kind_bytes room (function_kind (function_record s)))

-- of a kind that is given: the output begins with it, and its numbers are in their ranges
pub record FunctionClaim (s o o' : List ℕ) : Type 0 where
  pub written : o' ≡ kind_bytes (function_kind (function_record s)) ++ drop (length (kind_bytes (function_kind (function_record s)))) o
  pub range : FunctionRange (function_kind (function_record s))

-- what a call says: number, length and complete output, refused or not; and the claim whenever the number is 0
pub record ConvertedFunction (s o : List ℕ) (r : Answer) (o' : List ℕ) : Type 0 where
  pub answers : Answers kind_bytes (function_outcome s (length o)) o r o'
  pub claim : r.number ≡ 0 → FunctionClaim s o o'
