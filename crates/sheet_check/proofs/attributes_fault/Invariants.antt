use mathlib.Core.Path.{◌≡◌}
use mathlib.Core.List.{map}
use Rattle.svgtree.specs.Parse.{places_of}
use Rattle.sheet_check.specs.Means.{worse_of, worst, fault_of, attribute_fault}
use Rattle.sheet_check.proofs.attributes_fault.Given as goal

abbrev pub invariant-loop-attribute : goal.invariant-loop-attribute
invariant-loop-attribute l =
    let s = l.node.bytes.now in
    worst (map (attribute_fault s) (places_of s l.node.at)) ≡ worse_of l.found (worst (map (fault_of s) l.attribute-iterator))
