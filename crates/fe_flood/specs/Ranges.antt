-- What holds of the number of a flood: an opacity is 0 to 1, and so no NaN. Definitions only.
use Rattle.std.specs.Prelude.{T}
use Rattle.num.specs.Sign.{opacity_in}
use Rattle.tree.specs.declared.Flood.{Flood}

pub record FloodRange (v : Flood) : Type 0 where
  pub opacity : T (opacity_in v.opacity)
