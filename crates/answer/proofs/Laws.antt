-- Laws of outcomes: no refusal has the number 0, a refusal leaves the output, and what is given stands at its front where there is room. Assumes nothing.
use Prim.Native.Nat.{ℕ, ◌≤◌, ◌<◌}
use mathlib.Core.Path.{◌≡◌, refl, sym, subst}
use mathlib.Core.List.{List, ◌++◌}
use native.Mathlib.Omega.{arith}
use borrow.Author.Tests.{le-leb, lt-leb}
use lib.ListN.{length, drop}
use Rattle.answer.specs.Refusals.{refusal_number}
use Rattle.answer.specs.Outcomes.{Outcome, refused, given, in_room, Answers}
use Rattle.answer.specs.declared.Refusal.{Refusal}
use Rattle.answer.specs.declared.Refusal.TheVariants.{TooLarge, Malformed, BadNumber, Image, NoRegion, Unrepresentable, BadFrequency, NoPrimitive, ShortOutput, OutsideGrammar, OutsideLimits}
use Rattle.answer.specs.declared.Answer.{Answer}

pub never_zero : (r : Refusal) → refusal_number r ≡ 0 → ⊥
never_zero TooLarge e = omega arith
never_zero Malformed e = omega arith
never_zero BadNumber e = omega arith
never_zero Image e = omega arith
never_zero NoRegion e = omega arith
never_zero Unrepresentable e = omega arith
never_zero BadFrequency e = omega arith
never_zero NoPrimitive e = omega arith
never_zero ShortOutput e = omega arith
never_zero OutsideGrammar e = omega arith
never_zero OutsideLimits e = omega arith

module _ {A : Type 0} (bytes : A → List ℕ) (o : List ℕ) (r : Answer) where
  -- the same outcome, said otherwise
  pub answers_as : (o' : List ℕ) {x y : Outcome A} → y ≡ x → Answers bytes x o r o' → Answers bytes y o r o'
  answers_as o' e a = subst (λ (z : Outcome A). Answers bytes z o r o') (sym e) a

  -- a refusal leaves the output as it was
  pub refused_by : (x : Outcome A) (why : Refusal) → x ≡ refused why → (r.number ≡ refusal_number why) × (r.length ≡ 0) → Answers bytes x o r o
  refused_by x why e q =
      answers_as o e (record { number = q.0; length = q.1; output = refl })

  -- what is given stands at the output's front
  pub given_by : (o' : List ℕ) (x : Outcome A) (v : A) → x ≡ given v → (r.number ≡ 0) × (r.length ≡ length (bytes v)) → o' ≡ bytes v ++ drop (length (bytes v)) o
      → Answers bytes x o r o'
  given_by o' x v e q w =
      answers_as o' e (record { number = q.0; length = q.1; output = w })

module _ {A : Type 0} (bytes : A → List ℕ) (room : ℕ) (v : A) where
  pub in_room_lem : length (bytes v) ≤ room → in_room bytes room v ≡ given v
  unfolding in_room
  in_room_lem h = simp (le-leb (length (bytes v)) room h)

  pub out_of_room : room < length (bytes v) → in_room bytes room v ≡ refused ShortOutput
  unfolding in_room
  out_of_room h = simp (lt-leb (length (bytes v)) room h)
