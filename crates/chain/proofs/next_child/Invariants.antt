use mathlib.Core.Path.{◌≡◌}
use Rattle.chain.specs.Means.{chain_from}
use Rattle.chain.proofs.next_child.Given as goal

abbrev pub invariant-loop-i : goal.invariant-loop-i
invariant-loop-i l = chain_from l.frame l.sheet.bytes.now l.start ≡ chain_from l.frame l.sheet.bytes.now l.i
