use Prim.Native.Nat.{◌+◌, ◌*◌}
use mathlib.Core.Path.{◌≡◌}
use lib.ListN.{take}
use Rattle.bits.specs.Writer.{Writes}
use Rattle.tree.specs.List.{pairs_bytes}
use Rattle.tree.specs.Sizes.{total}
use Rattle.list_values.proofs.put_pairs.Given as goal

abbrev pub invariant-loop-size : goal.invariant-loop-size
invariant-loop-size l =
    let done = take l.size-index l.sizes in
    record { next : l.start ≡ l.base + total done; written : Writes l.initial.out (8 * l.size-index) (pairs_bytes l.base done) l.out }
