-- What numbers are read as, and a float cut to an i32 by its sign and size. No contract of an exported call reaches these. Definitions only.
use Rattle.std.specs.Prelude.{ℕ, ◌*◌, ◌/◌, min, Bool, true, false, cond, Float, ℤ, pos, neg_ℤ, None, Option, Some}
use Rattle.std.specs.Float.{nan, inf, fin, binary32, binary64}
use Rattle.std.specs.Float.Ieee.{up, down, of_bits}
use Rattle.std.specs.Float.Ieee.Scale.{finite}
use Rattle.num.specs.Narrowed.{or_zero, as_f32}

-- the first where the test holds, and else the second
abbrev pub pick_number : Bool → Option Float → Option Float → Option Float
pick_number true a b = a
pick_number false a b = b

-- a number counts where it is finite; with any other the whole sheet is refused
unfoldable pub if_finite : Float → Option Float
if_finite x = pick_number (finite x) (Some x) None

-- the number that f32 bits are read as
unfoldable pub single_of : ℕ → Float
single_of b = or_zero (of_bits binary32 b)

-- the f32 that f64 bits are read as
unfoldable pub double_of : ℕ → Float
double_of b = as_f32 (of_bits binary64 b)

-- |x|, which is a fraction, as the whole number that a rounding of fractions gives, for a finite x
unfoldable pub whole_by : (ℕ → ℕ → ℕ) → Float → ℕ
whole_by R nan = 0
whole_by R (inf s) = 0
whole_by R (fin s m e) = R (m * up e) (down e)

-- |x| without its fraction
abbrev pub cut_size : Float → ℕ
cut_size = whole_by ◌/◌

-- the i32 with this sign and size, held at both ends
unfoldable pub held_signed : Bool → ℕ → ℤ
held_signed s w = cond s (neg_ℤ (pos (min w 2147483648))) (pos (min w 2147483647))
