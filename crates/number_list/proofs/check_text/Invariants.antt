use Rattle.number_list.specs.Means.{outcome_check, check_from}
use Rattle.number_list.specs.Outcome.{text_outcome}
use Rattle.bits.specs.Bytes.{bytes_from}
use Rattle.decimal.specs.Windows.{seen}
use mathlib.Core.Path.{◌≡◌}
use Prim.Native.Nat.{◌≤◌}
use Rattle.number_list.proofs.check_text.Given as goal

abbrev pub invariant-loop-next : goal.invariant-loop-next
invariant-loop-next l = (l.walk.n ≤ 1024) × (outcome_check (text_outcome (bytes_from l.s l.at l.len)) ≡ check_from (seen l.walk.rest) l.walk.before l.walk.n l.walk.ok)

abbrev pub decreases-loop-next : goal.decreases-loop-next
decreases-loop-next l = l.walk.rest.len
