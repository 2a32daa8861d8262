use mathlib.Core.Path.{◌≡◌}
use mathlib.Core.List.{map}
use Rattle.svgtree.specs.Parse.{count_of}
use Rattle.sheet_check.specs.Means.{worse_of, worst, node_faults, fault_of_node}
use Rattle.sheet_check.proofs.nodes_fault.Given as goal

abbrev pub invariant-loop-node : goal.invariant-loop-node
invariant-loop-node l = worst (node_faults l.s 0 (count_of l.s)) ≡ worse_of l.found (worst (map fault_of_node l.node-iterator))
