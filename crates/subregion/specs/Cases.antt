-- Cases of subregions, each found by computing; numbers by their f32 bits.
use Rattle.std.specs.Prelude.{◌≡◌, refl, Float, Some}
use Rattle.std.specs.Float.{binary32}
use Rattle.std.specs.Float.Ieee.{of_bits, round, add, sub, mul, lt}
use Rattle.num.specs.Constants.{plus_zero, one}
use Rattle.geom.specs.declared.Rect.{Rect}
use Rattle.geom.specs.Geometry.{side, of_edges, of_size}
use Rattle.subregion.specs.Subregions.{corner_in_box}
use Rattle.subregion.specs.Absent.{made_anew}

abbrev minus_one : Float
minus_one = of_bits binary32 0xbf80_0000

-- the left edge is -1, top and bottom are 0 and 1
abbrev up_to : Float → Rect
up_to right = record { left = minus_one; top = plus_zero; right = right; bottom = one }

-- A filter region with x -1 and width 2 ^ 24 + 2 ends at 2 ^ 24, the sum being rounded. Its own width is 2 ^ 24, since 2 ^ 24 + 1 is no f32; so the rectangle
-- that is made anew of its x and width ends at 2 ^ 24 - 1.
pub far_edge : (of_size minus_one plus_zero (of_bits binary32 0x4b80_0001) one ≡ Some (up_to (of_bits binary32 0x4b80_0000)))
    × (made_anew (up_to (of_bits binary32 0x4b80_0000)) ≡ Some (up_to (of_bits binary32 0x4b7f_ffff)))
unfolding of_edges side add sub lt round of_bits
far_edge = (refl, refl)

-- (1 + 2 ^ -12) × (1 + 2 ^ -12) - 1 is 2 ^ -11: the product is rounded to 1 + 2 ^ -11 before the sum, which loses 2 ^ -24
pub two_roundings : corner_in_box (Some (of_bits binary32 0x3f80_0800)) (of_bits binary32 0x3f80_0800) minus_one ≡ Some (of_bits binary32 0x3a00_0000)
unfolding add mul round of_bits
two_roundings = refl
