-- A number for each axis, and the list of one or two numbers that `radius` and `baseFrequency` are. Definitions only.
-- Filter Effects Module Level 1: one number stands for both axes, of two the first is for x and the second for y.
use Rattle.std.specs.Prelude.{Bool, not, ◌&&◌, cond, List, [], ◌∷◌, Float, None, Option, Some}
use Rattle.num.specs.Constants.{plus_zero}
use Rattle.num.specs.Sign.{positive, sign_negative}
use Rattle.fe.specs.declared.pair.Pair.{Pair}

-- one number for each axis
abbrev pub pair_of : Float → Float → Pair
pair_of x y = record { x = x; y = y }

-- The document: a list of any other length is an error, as if the attribute were absent (not certain). The crate: it gives 0, 0.
unfoldable pub pair_in : List Float → Pair
pair_in [] = pair_of plus_zero plus_zero
pair_in (x ∷ []) = pair_of x x
pair_in (x ∷ y ∷ []) = pair_of x y
pair_in (x ∷ y ∷ z ∷ rest) = pair_of plus_zero plus_zero

-- whether neither number has its sign set, as -0 has
unfoldable pub signs_clear : Pair → Bool
signs_clear p = not (sign_negative p.x) && not (sign_negative p.y)

-- the pair where both numbers are positive, that is, finite and not below zero
unfoldable pub if_positive : Pair → Option Pair
if_positive p = cond (positive p.x && positive p.y) (Some p) None
