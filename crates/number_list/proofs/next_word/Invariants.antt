use Rattle.decimal.specs.Windows.{seen}
use Rattle.number_list.specs.Outcome.{words_in}
use Rattle.number_list.specs.Text.{parts}
use mathlib.Core.Path.{◌≡◌}
use Prim.Native.Nat.{◌≤◌}
use Rattle.number_list.proofs.next_word.Given as goal

abbrev pub invariant-loop-token : goal.invariant-loop-token
invariant-loop-token l = record { less : l.text.len ≤ l.fn.text.len; rest : words_in (parts (seen l.fn.text)) ≡ words_in (parts (seen l.text)) }

abbrev pub decreases-loop-token : goal.decreases-loop-token
decreases-loop-token l = l.text.len
