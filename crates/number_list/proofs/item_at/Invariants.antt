use Rattle.num.specs.Constants.{plus_zero}
use Rattle.decimal.specs.Windows.{seen}
use Rattle.number_list.specs.Outcome.{typed_numbers}
use lib.ListN.{get_or}
use mathlib.Core.Path.{◌≡◌}
use Rattle.number_list.proofs.item_at.Given as goal

-- the number at i is the one at `left` of those that are left
abbrev pub invariant-loop-word : goal.invariant-loop-word
invariant-loop-word l = get_or (typed_numbers (seen l.fn.text)) l.i plus_zero ≡ get_or (typed_numbers (seen l.text)) l.left plus_zero

abbrev pub decreases-loop-word : goal.decreases-loop-word
decreases-loop-word l = l.text.len
