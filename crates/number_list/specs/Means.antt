-- What the parts of a text that the code has stand for. Definitions only.
use Rattle.decimal.specs.declared.TextFault.{TextFault}
use Rattle.std.specs.Prelude.{ℕ, ◌+◌, ◌<◌, ◌≤◌, Bool, false, ◌&&◌, cond, List, [], ◌∷◌, length, ltb, eqb, Err, None, Ok, Option, Result, Some}
use Rattle.decimal.specs.declared.window.Window.{Window}
use Rattle.decimal.specs.Windows.{seen}
use Rattle.decimal.specs.Grammar.{TypedItem}
use Rattle.number_list.specs.declared.Before.{Before}
use Rattle.number_list.specs.declared.Before.TheVariants as before
use Rattle.number_list.specs.declared.Token.{Token}
use Rattle.number_list.specs.declared.Token.TheVariants as token
use Rattle.number_list.specs.declared.Walk.{Walk}
use Rattle.number_list.specs.Text.{Part, comma_part, word_part, parts, items_from}
use Rattle.number_list.specs.Outcome.{TextOutcome, outside_grammar, outside_limits, passed, all_in_limits, words_in}
use Rattle.decimal.specs.declared.TextFault.TheVariants as fault

-- the next part, and the parts after it
abbrev pub token_is : Option Token → List Part
token_is None = []
token_is (Some (token.Comma rest)) = comma_part ∷ parts (seen rest)
token_is (Some (token.Word word rest)) = word_part (seen word) ∷ parts (seen rest)

-- less is left of a text of so many bytes
abbrev pub TokenWithin : ℕ → Option Token → Type 0
TokenWithin len None = Unit {0}
TokenWithin len (Some (token.Comma rest)) = rest.len < len
TokenWithin len (Some (token.Word word rest)) = rest.len < len

-- the next word, and the words after it
abbrev pub word_and_rest : Option (Window × Window) → List (List ℕ)
word_and_rest None = []
word_and_rest (Some p) = seen p.0 ∷ words_in (parts (seen p.1))

-- less is left of a text of so many bytes
abbrev pub WordWithin : ℕ → Option (Window × Window) → Type 0
WordWithin len None = Unit {0}
WordWithin len (Some p) = p.1.len < len

-- an outcome, without its numbers
abbrev pub outcome_check : TextOutcome → Result (Unit {0}) TextFault
outcome_check outside_grammar = (Err fault.OutsideGrammar)
outcome_check outside_limits = (Err fault.OutsideLimits)
outcome_check (passed xs) = Ok tt

-- what comes of a text whose first n items are read, within the limits or not, by the items after them
unfoldable pub check_after : ℕ → Bool → Option (List TypedItem) → Result (Unit {0}) TextFault
check_after n ok None = (Err fault.OutsideGrammar)
check_after n ok (Some is) = cond (ltb 1024 (n + length is)) (Err fault.OutsideGrammar) (cond (ok && all_in_limits is) (Ok tt) (Err fault.OutsideLimits))

-- the same, where the items after them are those of a text, after an item, a comma or nothing
abbrev pub check_from : List ℕ → Before → ℕ → Bool → Result (Unit {0}) TextFault
check_from t b n ok = check_after n ok (items_from b (parts t))

-- what comes of the text after a step
abbrev pub text_step_is : Result (Option Walk) TextFault → Result (Unit {0}) TextFault
text_step_is (Err e) = Err e
text_step_is (Ok None) = Ok tt
text_step_is (Ok (Some w)) = check_from (seen w.rest) w.before w.n w.ok

-- after a step less is left of a text of so many bytes, and 1,024 items at most are read
abbrev pub TextStepWithin : (len : ℕ) → Result (Option Walk) TextFault → Type 0
TextStepWithin len (Err e) = Unit {0}
TextStepWithin len (Ok None) = Unit {0}
TextStepWithin len (Ok (Some w)) = (w.rest.len < len) × (w.n ≤ 1024)

-- ---- how the code goes on: at the end, at a comma, and at a word

abbrev pub end_check : Before → Bool → Result (Unit {0}) TextFault
end_check before.Start ok = cond ok (Ok tt) (Err fault.OutsideLimits)
end_check before.Item ok = cond ok (Ok tt) (Err fault.OutsideLimits)
end_check before.Comma ok = (Err fault.OutsideGrammar)

abbrev pub comma_step : Before → Window → (n : ℕ) → Bool → Result (Option Walk) TextFault
comma_step before.Start rest n ok = Err fault.OutsideGrammar
comma_step before.Item rest n ok = Ok (Some (record { rest = rest; before = before.Comma; n = n; ok = ok }))
comma_step before.Comma rest n ok = Err fault.OutsideGrammar

-- by whether the word is read
abbrev pub checked_step : Result (Unit {0}) TextFault → Window → (n : ℕ) → Bool → Result (Option Walk) TextFault
checked_step (Ok tt) rest n ok = Ok (Some (record { rest = rest; before = before.Item; n = n + 1; ok = ok }))
checked_step (Err fault.OutsideLimits) rest n ok = Ok (Some (record { rest = rest; before = before.Item; n = n + 1; ok = false }))
checked_step (Err fault.OutsideGrammar) rest n ok = Err fault.OutsideGrammar

-- and by how many items stand before it
abbrev pub word_step : Result (Unit {0}) TextFault → Window → (n : ℕ) → Bool → Result (Option Walk) TextFault
word_step v rest n ok = cond (eqb n 1024) (Err fault.OutsideGrammar) (checked_step v rest n ok)
