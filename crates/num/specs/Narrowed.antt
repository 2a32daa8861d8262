-- An f64 as the nearest f32, and a number that is not finite. Definitions only.
use Rattle.std.specs.Prelude.{◌*◌, cond, Float}
use Rattle.std.specs.Float.{nan, inf, fin, binary32}
use Rattle.std.specs.Float.Ieee.{up, down, round}
use Rattle.std.specs.Float.Ieee.Scale.{finite}
use Rattle.num.specs.Constants.{plus_zero}

-- the f32 nearest to an f64, of two equally near ones the even one: Rust's `as f32`. `round` gives an infinity where the number is too large
unfoldable pub narrowed : Float → Float
narrowed nan = nan
narrowed (inf s) = inf s
narrowed (fin s m e) = round binary32 s (m * up e) (down e)

-- a number that is read; +0 for one that is not finite. A sheet with such a number is refused (number 3): of every other each number is read as it is
-- given (theorem `read_as_given` of `sheet_accepted`)
unfoldable pub or_zero : Float → Float
or_zero x = cond (finite x) x plus_zero

-- the f32 that an f64 is read as
abbrev pub as_f32 : Float → Float
as_f32 x = or_zero (narrowed x)
