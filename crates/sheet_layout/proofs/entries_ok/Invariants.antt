use mathlib.Core.Path.{◌≡◌}
use Prim.Native.Nat.{◌+◌}
use mathlib.Core.List.{map}
use Rattle.svgtree.specs.Parse.{places_of}
use Rattle.svgtree.specs.Nodes.{node_of}
use Rattle.sheet_layout.specs.Records.{entry_at}
use Rattle.sheet_layout.specs.Layout.{entries_ok}
use Rattle.sheet_layout.proofs.Entries.{looped}
use Rattle.sheet_layout.proofs.entries_ok.Given as goal

abbrev pub invariant-loop-attribute : goal.invariant-loop-attribute
invariant-loop-attribute l =
    let s = l.node.bytes.now in
    entries_ok (node_of l.node).depth l.size (map (entry_at s) (places_of s l.node.at)) ≡ looped s l.depth (l.node.at + l.size) l.end l.attribute-iterator l.low
