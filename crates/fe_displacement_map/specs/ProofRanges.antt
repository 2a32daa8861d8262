-- What the proofs carry of the number of a displacement map: it is no NaN, but it may be infinite. Definitions only.
use Rattle.answer.specs.declared.Refusal.{Refusal}
use Rattle.std.specs.Prelude.{Err, Ok, Result}
use Rattle.num.specs.Numbers.{IsNumber}
use Rattle.tree.specs.declared.DisplacementMap.{DisplacementMap}

pub record DisplacementMapRange (v : DisplacementMap) : Type 0 where
  pub scale : IsNumber v.scale

-- the range of what is answered; where it is a refusal there is nothing to say
abbrev pub DisplacementMapOk : Result DisplacementMap Refusal → Type 0
DisplacementMapOk (Ok v) = DisplacementMapRange v
DisplacementMapOk (Err why) = Unit {0}
