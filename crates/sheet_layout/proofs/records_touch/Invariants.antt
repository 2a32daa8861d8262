use Prim.Native.Nat.{◌*◌, ◌+◌, ◌-◌, ◌≤◌}
use mathlib.Core.Path.{◌≡◌}
use Rattle.svgtree.specs.Parse.{pair_place}
use Rattle.sheet_layout.specs.Records.{node_records_from}
use Rattle.sheet_layout.specs.Layout.{touch}
use lib.ListN.{length}
use Rattle.sheet_layout.proofs.records_touch.Given as goal

abbrev pub invariant-loop-i : goal.invariant-loop-i
invariant-loop-i l =
    record {
      fits : l.at ≤ 600000 + l.i * 4294967296;
      rest : touch (pair_place l.n) (length l.s) (node_records_from l.s 0 l.n) ≡ touch l.at (length l.s) (node_records_from l.s l.i (l.n - l.i));
    }
