-- What a call answers: a refusal leaves the output; else the kind is written, and its numbers are in their ranges. Assumes nothing.
use Rattle.std.specs.Prelude.{Err, Ok, Result}
use Prim.Native.Nat.{ℕ, ◌≤◌, ◌<◌}
use native.Mathlib.Nat.{zero-add}
use native.Mathlib.Omega.{arith}
use mathlib.Core.Path.{◌≡◌, ◌∙◌, ap}
use mathlib.Core.List.{List, ◌++◌}
use lib.ListN.{length, drop, get_or}
use Rattle.answer.specs.Refusals.{refusal_number}
use Rattle.answer.specs.Outcomes.{refused, unless_refused, in_room}
use Rattle.answer.specs.declared.Answer.{Answer}
use Rattle.answer.specs.declared.Refusal.{Refusal}
use Rattle.answer.specs.declared.Refusal.TheVariants.{ShortOutput}
use Rattle.answer.proofs.Laws.{never_zero, refused_by, given_by, in_room_lem, out_of_room}
use Rattle.bits.specs.Patch.{Put}
use Rattle.bits.proofs.Patches.{patch_parts}
use Rattle.tree.specs.Input.{Input}
use Rattle.tree.specs.Kinds.{Kind}
use Rattle.tree.specs.List.{kind_bytes}
use Rattle.functions.specs.Records.{function_record}
use Rattle.functions.specs.Functions.{function_kind}
use Rattle.functions.specs.Refusals.{function_refusal}
use Rattle.functions.specs.Call.{function_outcome, ConvertedFunction}
use Rattle.functions.proofs.Ranges.{in_range}

abbrev kind_in : List ℕ → Kind Input
kind_in s = function_kind (function_record s)

module _ (s : List ℕ) (room : ℕ) where
  by_check : (c : Result (Unit {0}) Refusal) → function_refusal s ≡ c → function_outcome s room ≡ unless_refused c (in_room kind_bytes room (kind_in s))
  unfolding function_outcome
  by_check c e = ap (λ (x : Result (Unit {0}) Refusal). unless_refused x (in_room kind_bytes room (kind_in s))) e

module _ (s o : List ℕ) (r : Answer) where
  refused_call : (why : Refusal) → function_outcome s (length o) ≡ refused why → (r.number ≡ refusal_number why) × (r.length ≡ 0) → ConvertedFunction s o r o
  refused_call why e q =
      record {
        answers = refused_by kind_bytes o r (function_outcome s (length o)) why e q;
        claim = λ z. absurd (never_zero why (cc (q.0, z)));
      }

  pub check_refused : (why : Refusal) → function_refusal s ≡ Err why → (r.number ≡ refusal_number why) × (r.length ≡ 0) → ConvertedFunction s o r o
  check_refused why e q = refused_call why (by_check s (length o) (Err why) e) q

  pub no_room : function_refusal s ≡ (Ok tt) → length o < length (kind_bytes (kind_in s)) → (r.number ≡ refusal_number ShortOutput) × (r.length ≡ 0)
      → ConvertedFunction s o r o
  no_room e h q = refused_call ShortOutput (by_check s (length o) (Ok tt) e ∙ out_of_room kind_bytes (length o) (kind_in s) h) q

module _ (s o o' : List ℕ) (r : Answer) (size : ℕ) (bytes : (i : ℕ) → get_or s i 0 < 256) (fits : length (kind_bytes (kind_in s)) ≤ length o)
    (put : Put o 0 (length (kind_bytes (kind_in s))) (kind_bytes (kind_in s)) o' size) where
  output : o' ≡ kind_bytes (kind_in s) ++ drop (length (kind_bytes (kind_in s))) o
  output = put.put ∙ patch_parts o 0 (kind_bytes (kind_in s)) (omega arith) ∙ rw (zero-add (length (kind_bytes (kind_in s))))

  pub given_call : function_refusal s ≡ (Ok tt) → (r.number ≡ 0) × (r.length ≡ size) → ConvertedFunction s o r o'
  given_call e q =
      record {
        answers =
            given_by kind_bytes o r o' (function_outcome s (length o)) (kind_in s) (by_check s (length o) (Ok tt) e ∙ in_room_lem kind_bytes (length o) (kind_in s) fits)
            (q.0, q.1 ∙ put.next ∙ zero-add (length (kind_bytes (kind_in s)))) output;
        claim = λ z. record { written = output; range = in_range s bytes };
      }
