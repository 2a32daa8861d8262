use Prim.Native.Nat.{◌*◌}
use mathlib.Core.Path.{◌≡◌}
use mathlib.Core.List.{◌++◌}
use lib.ListN.{length}
use Rattle.bits.specs.Writer.{Writes}
use Rattle.number_list.specs.Lists.{numbers_is, numbers_left}
use Rattle.tree.specs.Scalars.{run_bytes}
use Rattle.list_values.proofs.put_run.Given as goal

abbrev pub invariant-loop-x : goal.invariant-loop-x
invariant-loop-x l =
    record {
      written : Writes l.initial.out (4 * length l.yielded) (run_bytes l.yielded) l.out;
      left : numbers_is l.s l.fn.v ≡ l.yielded ++ numbers_left l.x-iterator;
    }
