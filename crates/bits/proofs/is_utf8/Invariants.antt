use Rattle.std.specs.Prelude.{Some}
use mathlib.Core.Path.{◌≡◌}
use Prim.Native.Nat.{◌+◌, ◌-◌}
use mathlib.Core.List.{[]}
use Rattle.bits.specs.Bytes.{bytes_from}
use Rattle.bits.specs.Utf8.{utf8_run}
use Rattle.bits.specs.Due.{ranges_due}
use Rattle.bits.proofs.is_utf8.Given as goal

-- reading on from what is due gives what reading the whole run from the start gives
abbrev pub invariant-loop-j : goal.invariant-loop-j
invariant-loop-j l = utf8_run (Some []) (bytes_from l.s l.from l.n) ≡ utf8_run (Some (ranges_due l.now)) (bytes_from l.s (l.from + l.j) (l.n - l.j))
