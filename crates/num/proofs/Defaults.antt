-- A positive number, or a default. Assumes nothing.
use Rattle.std.specs.Prelude.{None, Some, unwrap_or}
use mathlib.Core.Path.{◌≡◌, refl}
use mathlib.Core.Bool.{Bool, true, false, cond}
use lib.Ieee.{Float}

pub positive_or : (positive : Bool) (x default : Float) → unwrap_or (cond positive (Some x) None) default ≡ cond positive x default
positive_or true x default = refl
positive_or false x default = refl
