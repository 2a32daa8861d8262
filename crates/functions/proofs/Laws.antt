-- The library's law on a conjunction whose last part is true, under a name that an attribute can cite.
use Rattle.std.proofs.Math.Bool.{and-true}

pub ruleset last_true = (and-true)
