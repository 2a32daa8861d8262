use mathlib.Core.Path.{◌≡◌}
use mathlib.Core.List.{◌++◌}
use Prim.Native.Nat.{◌+◌, ◌-◌, ◌≤◌, ◌<◌, ◌^◌}
use Rattle.bits.specs.Bytes.{bytes_from}
use Rattle.naming.specs.Names.{digits}
use Rattle.results.proofs.number_after.Given as goal

abbrev pub invariant-loop-i : goal.invariant-loop-i
invariant-loop-i l = (1 ≤ l.v) × (l.v < 10 ^ (10 - (l.n - l.i))) × (digits l.first ++ bytes_from l.s l.from l.n ≡ digits l.v ++ bytes_from l.s (l.from + l.i) (l.n - l.i))
