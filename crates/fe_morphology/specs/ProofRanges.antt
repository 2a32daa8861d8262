-- What the proofs carry of an answer that may be a refusal. Definitions only.
use Rattle.answer.specs.declared.Refusal.{Refusal}
use Rattle.tree.specs.declared.Morphology.{Morphology}
use Rattle.std.specs.Prelude.{Err, Ok, Result}
use Rattle.fe_morphology.specs.Ranges.{MorphologyRange}

-- the range of what is answered; where it is a refusal there is nothing to say
abbrev pub MorphologyOk : Result Morphology Refusal → Type 0
MorphologyOk (Ok v) = MorphologyRange v
MorphologyOk (Err why) = Unit {0}
