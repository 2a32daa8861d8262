-- feGaussianBlur, and its attribute `stdDeviation`, which feDropShadow has too. Definitions only.
-- Filter Effects Module Level 1, feGaussianBlur: `stdDeviation` is one number for both axes, or one for x and one for y; absent, it is 0. For
-- feDropShadow it is 2 where absent.
use Rattle.std.specs.Prelude.{cond, Float, None, Option, Some}
use Rattle.std.specs.Float.{binary32}
use Rattle.std.specs.Float.Ieee.{mul}
use Rattle.names.specs.Ids.{aid_std_deviation}
use Rattle.num.specs.Constants.{plus_zero}
use Rattle.num.specs.Narrowed.{as_f32}
use Rattle.num.specs.Sign.{positive}
use Rattle.geom.specs.declared.Size.{Size}
use Rattle.svgtree.specs.Values.{Tried, Node}
use Rattle.svgtree.specs.Readers.{tries_of}
use Rattle.tree.specs.declared.GaussianBlur.{GaussianBlur}
use Rattle.fe.specs.declared.pair.Pair.{Pair}
use Rattle.fe.specs.Pairs.{pair_of}

-- the first two tries: two numbers, one number for both axes, or none
abbrev pub one_or_two : Option Float → Option Float → Pair
one_or_two (Some x) (Some y) = pair_of (as_f32 x) (as_f32 y)
one_or_two (Some x) None = pair_of (as_f32 x) (as_f32 x)
one_or_two None second = pair_of plus_zero plus_zero

-- "Only three tries at stdDeviation count: number, number, error gives both numbers; three numbers give 0, 0".
-- The document: a list that is not one or two numbers is an error, as if the attribute were absent (not certain). The crate: 0, 0, for feDropShadow too,
-- and one or two numbers count where what follows them is no number.
abbrev pub numbers_tried : Option Float → Option Float → Option Float → Pair
numbers_tried first second None = one_or_two first second
numbers_tried first second (Some z) = pair_of plus_zero plus_zero

-- the same of an attribute that may be absent
abbrev pub numbers_or_default : Option Tried → Float → Pair
numbers_or_default None default = pair_of default default
numbers_or_default (Some t) default = numbers_tried t.first t.second t.third

-- "radius, deviation .. are positive": a deviation is scaled first and compared then, and is 0 where the product is not positive.
-- The document: a negative number disables the whole blur. The crate: it is 0, for its own axis alone.
unfoldable pub deviation : Float → Float → Float
deviation n scale = cond (positive (mul binary32 n scale)) (mul binary32 n scale) plus_zero

-- the two deviations of a node, where the absent attribute stands for `default`
abbrev pub deviations_of : Node → Size → Float → Pair
deviations_of n scale default =
    let p = numbers_or_default (tries_of n aid_std_deviation) default in
    pair_of (deviation p.x scale.width) (deviation p.y scale.height)

-- The document: `edgeMode` says how the input goes on beyond its edges. The crate does not read it on feGaussianBlur.
abbrev pub gaussian_blur_of : Node → Size → GaussianBlur
gaussian_blur_of n scale =
    let d = deviations_of n scale plus_zero in
    record { std_dev_x = d.x; std_dev_y = d.y }
