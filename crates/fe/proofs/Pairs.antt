-- What holds of the numbers of the pair that a list gives. Assumes nothing.
use Rattle.std.specs.Prelude.{None, Option, Some}
use mathlib.Core.List.{List, [], ◌∷◌}
use mathlib.Core.Bool.{Bool, true, false, cond, ◌&&◌}
use lib.Dec.{T}
use lib.Ieee.{Float}
use lib.Ieee.Fits.{and_l, and_r}
use Rattle.num.specs.Constants.{plus_zero}
use Rattle.num.specs.Numbers.{Each}
use Rattle.num.specs.Sign.{positive}
use Rattle.fe.specs.declared.pair.Pair.{Pair}
use Rattle.fe.specs.Pairs.{pair_in, if_positive}

-- what holds of +0 and of each number of a list holds of both numbers of the pair
pub pair_holds : (P : Float → Type 0) → P plus_zero → (xs : List Float) → Each P xs → P (pair_in xs).x × P (pair_in xs).y
unfolding pair_in
pair_holds P z [] h = (z, z)
pair_holds P z (x ∷ []) h = (h.0, h.0)
pair_holds P z (x ∷ y ∷ []) h = (h.0, h.1.0)
pair_holds P z (x ∷ y ∷ w ∷ rest) h = (z, z)

-- of both numbers of a pair that may be refused
abbrev pub PairHolds : (Float → Type 0) → Option Pair → Type 0
PairHolds P (Some p) = P p.x × P p.y
PairHolds P None = Unit {0}

abbrev pub Positive : Float → Type 0
Positive x = T (positive x)

pub if_positive_lem : (p : Pair) → PairHolds Positive (if_positive p)
unfolding if_positive
if_positive_lem p = go (positive p.x && positive p.y) (λ h. h)
  where
    go : (b : Bool) → (T b → T (positive p.x && positive p.y)) → PairHolds Positive (cond b (Some p) None)
    go true f = (and_l (positive p.x) (positive p.y) (f tt), and_r (positive p.x) (positive p.y) (f tt))
    go false f = tt
