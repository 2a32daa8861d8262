-- What holds of the numbers of these kinds: none is NaN, deviations are positive, an opacity is 0 to 1. Definitions only.
use Rattle.std.specs.Prelude.{T}
use Rattle.num.specs.Numbers.{IsNumber}
use Rattle.num.specs.Sign.{positive, opacity_in}
use Rattle.tree.specs.declared.GaussianBlur.{GaussianBlur}
use Rattle.tree.specs.declared.DropShadow.{DropShadow}

-- a positive number is finite, so it is no NaN; neither is an opacity in its range
pub record GaussianBlurRange (v : GaussianBlur) : Type 0 where
  pub deviation_x : T (positive v.std_dev_x)
  pub deviation_y : T (positive v.std_dev_y)

pub record DropShadowRange (v : DropShadow) : Type 0 where
  pub dx : IsNumber v.dx
  pub dy : IsNumber v.dy
  pub deviation_x : T (positive v.std_dev_x)
  pub deviation_y : T (positive v.std_dev_y)
  pub opacity : T (opacity_in v.opacity)
