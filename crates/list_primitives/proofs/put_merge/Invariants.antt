use Prim.Native.Nat.{◌-◌}
use lib.ListN.{length}
use Rattle.list_primitives.proofs.Merges.{merge_up_to}
use Rattle.bits.specs.Writer.{Writes}
use Rattle.list_primitives.proofs.put_merge.Given as goal

abbrev pub invariant-loop-i : goal.invariant-loop-i
invariant-loop-i l =
    let done = merge_up_to l.names.bytes.now l.names.entries.now l.fn.merge.first (l.i - l.fn.merge.first) in
    Writes l.initial.out (length done) done l.out
