use Rattle.decimal.specs.Windows.{seen}
use Rattle.number_list.specs.Outcome.{typed_numbers}
use lib.ListN.{length}
use mathlib.Core.Path.{◌≡◌}
use Prim.Native.Nat.{◌≤◌, ◌+◌}
use Rattle.number_list.proofs.count_items.Given as goal

-- a word has a byte at least, so n and what is left are at most the text's length, and n fits
abbrev pub invariant-loop-rest : goal.invariant-loop-rest
invariant-loop-rest l =
    record {
      passed : l.n + l.text.len ≤ l.fn.text.len;
      rest : length (typed_numbers (seen l.fn.text)) ≡ l.n + length (typed_numbers (seen l.text));
    }

abbrev pub decreases-loop-rest : goal.decreases-loop-rest
decreases-loop-rest l = l.text.len
