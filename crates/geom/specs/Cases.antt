-- Cases of which rectangles exist, each found by computing.
use Rattle.std.specs.Prelude.{◌≡◌, refl, Float, None, Some}
use Rattle.std.specs.Float.{binary32}
use Rattle.std.specs.Float.Ieee.{of_bits, round, add, sub, lt}
use Rattle.geom.specs.Geometry.{zero_f32, largest, side, of_edges, of_size}
use Rattle.num.specs.Constants.{one}

-- 2 ^ 74 and 2 ^ 75, by their f32 bits
abbrev power_74 : Float
power_74 = of_bits binary32 0x6480_0000

abbrev power_75 : Float
power_75 = of_bits binary32 0x6500_0000

-- the bits of the largest f32
pub largest_bits : largest ≡ of_bits binary32 0x7f7f_ffff
unfolding of_bits
largest_bits = refl

-- The largest f32 as a width: 2 ^ 74 and 2 ^ 75 are too small to change it when they are added, so it is also the right edge.
-- In f64, right - left is rounded back to the largest f32 for 2 ^ 74, and is the next number below it for 2 ^ 75.
pub largest_at_74 : of_size power_74 zero_f32 largest one ≡ None
unfolding of_edges side add sub lt round of_bits
largest_at_74 = refl

pub largest_at_75 : of_size power_75 zero_f32 largest one ≡ Some (record { left = power_75; top = zero_f32; right = largest; bottom = one })
unfolding of_edges side add sub lt round of_bits
largest_at_75 = refl

-- a width of zero, and one that adds nothing to x, make no rectangle
pub no_width : of_size one zero_f32 zero_f32 one ≡ None
unfolding of_edges side add sub lt round of_bits
no_width = refl

pub lost_width : of_size power_74 zero_f32 one one ≡ None
unfolding of_edges side add sub lt round of_bits
lost_width = refl
