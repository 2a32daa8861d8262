-- What holds of the numbers of a morphology: radii are positive, and so finite. Definitions only.
use Rattle.std.specs.Prelude.{T}
use Rattle.num.specs.Sign.{positive}
use Rattle.tree.specs.declared.Morphology.{Morphology}

-- "radius .. [is] positive"
pub record MorphologyRange (v : Morphology) : Type 0 where
  pub radius_x : T (positive v.radius_x)
  pub radius_y : T (positive v.radius_y)
