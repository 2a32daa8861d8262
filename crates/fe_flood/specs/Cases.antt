-- Cases of the opacity, each found by computing.
use Rattle.std.specs.Prelude.{◌≡◌, refl}
use Rattle.std.specs.Float.{binary32}
use Rattle.std.specs.Float.Ieee.{of_bits, of_int, div, round}
use Rattle.num.specs.Constants.{one}
use Rattle.fe_flood.specs.Flood.{alpha_opacity}

-- alpha 255 is 1, alpha 51 the f32 nearest to 0.2
pub opaque : alpha_opacity 255 ≡ one
unfolding alpha_opacity of_int div round of_bits
opaque = refl

pub fifth : alpha_opacity 51 ≡ of_bits binary32 0x3e4c_cccd
unfolding alpha_opacity of_int div round of_bits
fifth = refl
