use mathlib.Core.Path.{◌≡◌}
use mathlib.Core.List.{◌++◌}
use Prim.Native.Nat.{◌≤◌, ◌<◌, ◌^◌}
use lib.ListN.{length, drop}
use Rattle.naming.specs.Names.{digits}
use Rattle.results.proofs.digits_of.Given as goal

abbrev pub invariant-loop-n : goal.invariant-loop-n
invariant-loop-n l = (1 ≤ l.e) × (l.e ≤ 10) × (l.n < 10 ^ l.e) × (length l.buf ≡ 10) × (digits l.k ≡ digits l.n ++ drop l.e l.buf)

abbrev pub decreases-loop-n : goal.decreases-loop-n
decreases-loop-n l = l.n
