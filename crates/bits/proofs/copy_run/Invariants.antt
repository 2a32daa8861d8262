use Rattle.std.proofs.Common.{◌≡◌, take}
use Rattle.bits.proofs.copy_run.Given as goal

-- so many values are copied
abbrev pub invariant-loop-k : goal.invariant-loop-k
invariant-loop-k l = take l.k l.to ≡ take l.k l.from
