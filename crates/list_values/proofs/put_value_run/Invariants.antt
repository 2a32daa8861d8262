use Prim.Native.Nat.{◌*◌}
use lib.ListN.{take}
use Rattle.bits.specs.Writer.{Writes}
use Rattle.tree.specs.Scalars.{run_bytes}
use Rattle.list_values.proofs.put_value_run.Given as goal

abbrev pub invariant-loop-x : goal.invariant-loop-x
invariant-loop-x l = Writes l.initial.out (4 * l.x-index) (run_bytes (take l.x-index l.v)) l.out
