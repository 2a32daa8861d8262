-- feMorphology. Definitions only.
-- Filter Effects Module Level 1, feMorphology: `operator` is erode, or dilate; `radius` is one number, or one for each axis.
use Rattle.answer.specs.declared.Refusal.{Refusal}
use Rattle.tree.specs.declared.Morphology.{Morphology}
use Rattle.std.specs.Prelude.{cond, List, [], ◌∷◌, Float, Err, None, Ok, Option, Result, Some}
use Rattle.std.specs.Float.{binary32}
use Rattle.std.specs.Float.Ieee.{mul}
use Rattle.answer.specs.declared.Refusal.TheVariants.{Unrepresentable}
use Rattle.names.specs.Ids.{aid_operator, aid_radius}
use Rattle.num.specs.Constants.{one}
use Rattle.num.specs.Sign.{near_zero}
use Rattle.geom.specs.declared.Size.{Size}
use Rattle.svgtree.specs.Values.{Node}
use Rattle.svgtree.specs.Readers.{text_of, numbers_of}
use Rattle.tree.specs.declared.MorphologyOperator.{MorphologyOperator}
use Rattle.tree.specs.declared.MorphologyOperator.TheVariants.{Erode, Dilate}
use Rattle.fe.specs.Keywords.{◌means◌, keyword}
use Rattle.fe.specs.declared.pair.Pair.{Pair}
use Rattle.fe.specs.Pairs.{pair_of, pair_in, signs_clear, if_positive}

-- `erode` where `operator` is absent, and for every text but `dilate`
abbrev pub morphology_operator_of : Node → MorphologyOperator
morphology_operator_of n = keyword ("dilate" means Dilate ∷ []) Erode (text_of n aid_operator)

-- The document: a radius of zero disables the effect, and the result is the input. The crate: one that is near zero becomes 1, each for itself.
unfoldable pub one_for_zero : Float → Float
one_for_zero x = cond (near_zero x) one x

abbrev pub ones_for_zeros : Pair → Pair
ones_for_zeros p = pair_of (one_for_zero p.x) (one_for_zero p.y)

-- the radius 1 on both axes, scaled
abbrev pub unit_radius : Size → Pair
unit_radius scale = pair_of scale.width scale.height

abbrev pub scaled_radius : Pair → Size → Pair
scaled_radius p scale = pair_of (mul binary32 p.x scale.width) (mul binary32 p.y scale.height)

-- The document: a negative radius disables the effect. The crate: a sign that is set makes both radii 1. Where neither is set, "a radius
-- product isn't finite (the crate panics)" is a refusal.
abbrev pub radius_from : Pair → Size → Option Pair
radius_from p scale = cond (signs_clear p) (if_positive (scaled_radius p scale)) (Some (unit_radius scale))

-- The document: `radius` is 0 where absent, which disables the effect. The crate: 1 on both axes, scaled.
abbrev pub radius_of : Option (List Float) → Size → Option Pair
radius_of None scale = Some (unit_radius scale)
radius_of (Some xs) scale = radius_from (ones_for_zeros (pair_in xs)) scale

abbrev pub morphology_with : MorphologyOperator → Option Pair → Result Morphology Refusal
morphology_with operator (Some p) = Ok (record { operator = operator; radius_x = p.x; radius_y = p.y })
morphology_with operator None = Err Unrepresentable

abbrev pub morphology_of : Node → Size → Result Morphology Refusal
morphology_of n scale = morphology_with (morphology_operator_of n) (radius_of (numbers_of n aid_radius) scale)
