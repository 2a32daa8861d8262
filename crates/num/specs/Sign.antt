-- Sign, near zero, opacities and bounds of an f32. Definitions only.
use Rattle.std.specs.Prelude.{Bool, false, not, ◌&&◌, ◌||◌, cond, leb, eqb, Float}
use Rattle.std.specs.Float.{nan, inf, fin, binary32}
use Rattle.std.specs.Float.Ieee.{lt, le, to_bits}
use Rattle.std.specs.Float.Ieee.Scale.{finite}
use Rattle.num.specs.Constants.{plus_zero, one}

-- what strict-num calls positive: a finite number that is not below zero; -0 is one
abbrev pub positive : Float → Bool
positive x = finite x && le plus_zero x

-- the sign bit: set for -0, for what is below 0 and for the negative infinity; a NaN has none
abbrev pub sign_negative : Float → Bool
sign_negative nan = false
sign_negative (inf s) = s
sign_negative (fin s m e) = s

-- "opacity 0 to 1". A sheet with "flood-opacity outside 0..1 or −0" is refused, so −0 is left out
unfoldable pub opacity_in : Float → Bool
opacity_in x = le plus_zero x && le x one && not (sign_negative x)

-- `approx_zero_ulps(4)`: +0, -0 and the patterns 1 to 4, but no number below zero
abbrev pub near_zero : Float → Bool
near_zero x = leb (to_bits binary32 x) 4 || eqb (to_bits binary32 x) 2147483648

-- a value above max is max, one not below min is itself, and every other, a NaN too, is min
abbrev pub f32_bound : Float → Float → Float → Float
f32_bound min val max = cond (lt max val) max (cond (le min val) val min)
