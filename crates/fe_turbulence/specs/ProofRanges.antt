-- What the proofs carry of an answer that may be a refusal. Definitions only.
use Rattle.answer.specs.declared.Refusal.{Refusal}
use Rattle.tree.specs.declared.Turbulence.{Turbulence}
use Rattle.std.specs.Prelude.{Err, Ok, Result}
use Rattle.fe_turbulence.specs.Ranges.{TurbulenceRange}

-- the range of what is answered; where it is a refusal there is nothing to say
abbrev pub TurbulenceOk : Result Turbulence Refusal → Type 0
TurbulenceOk (Ok v) = TurbulenceRange v
TurbulenceOk (Err why) = Unit {0}
