use Prim.Native.Nat.{◌-◌, ◌≤◌}
use Rattle.naming.specs.Names.{first_free, own_names}
use Rattle.results.specs.Means.{labels_is}
use Rattle.results.proofs.FilterResults.made.Given as goal

abbrev pub invariant-loop-so_far : goal.invariant-loop-so_far
invariant-loop-so_far l = (l.self.idx ≤ l.k) × (l.k ≤ first_free (own_names (labels_is l.s l.names l.self.count)) l.self.idx)

abbrev pub decreases-loop-so_far : goal.decreases-loop-so_far
decreases-loop-so_far l = first_free (own_names (labels_is l.s l.names l.self.count)) l.self.idx - l.k
