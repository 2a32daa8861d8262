use mathlib.Core.Path.{◌≡◌}
use mathlib.Core.Bool.{false}
use Rattle.sheet_layout.specs.Records.{node_records_from}
use Rattle.sheet_layout.specs.Layout.{depths_ok}
use Rattle.sheet_layout.proofs.Following.{handles_deep}
use Rattle.svgtree.specs.Parse.{count_of}
use Rattle.sheet_layout.proofs.depths_ok.Given as goal

abbrev pub invariant-loop-node : goal.invariant-loop-node
invariant-loop-node l = depths_ok false (node_records_from l.s 0 (count_of l.s)) ≡ handles_deep l.tagged l.node-iterator
