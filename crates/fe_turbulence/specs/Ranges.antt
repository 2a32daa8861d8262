-- What holds of the numbers of a turbulence: base frequencies are positive, and so finite. Definitions only.
use Rattle.std.specs.Prelude.{T}
use Rattle.num.specs.Sign.{positive}
use Rattle.tree.specs.declared.Turbulence.{Turbulence}

pub record TurbulenceRange (v : Turbulence) : Type 0 where
  pub frequency_x : T (positive v.base_frequency_x)
  pub frequency_y : T (positive v.base_frequency_y)
