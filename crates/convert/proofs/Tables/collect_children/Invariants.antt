use Prim.Native.Nat.{◌-◌}
use Rattle.svgtree.specs.Parse.{count_of}
use Rattle.convert.proofs.Collecting.{Collecting}
use Rattle.convert.proofs.Tables.collect_children.Given as goal

abbrev pub invariant-loop-j : goal.invariant-loop-j
invariant-loop-j l = Collecting l.frame l.sheet.bytes.now l.self.nodes l.self.names l.self.sizes l.self.results l.self.total l.i

abbrev pub decreases-loop-j : goal.decreases-loop-j
decreases-loop-j l = count_of l.sheet.bytes.now - l.i
