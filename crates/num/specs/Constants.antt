-- The f32 numbers that several definitions name, by their bits. Definitions only.
use Rattle.std.specs.Prelude.{Float}
use Rattle.std.specs.Float.{binary32}
use Rattle.std.specs.Float.Ieee.{of_bits}

-- +0
abbrev pub plus_zero : Float
plus_zero = of_bits binary32 0

-- 1 and 2
abbrev pub one : Float
one = of_bits binary32 0x3f80_0000

abbrev pub two : Float
two = of_bits binary32 0x4000_0000
