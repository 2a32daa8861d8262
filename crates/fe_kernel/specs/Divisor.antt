-- feConvolveMatrix of the W3C document Filter Effects Module Level 1: the attribute `divisor`. Definitions only.
use Rattle.std.specs.Prelude.{cond, List, [], ◌∷◌, Float}
use Rattle.std.specs.Float.{binary32}
use Rattle.std.specs.Float.Ieee.{add, mul, div, of_bits}
use Rattle.num.specs.Constants.{plus_zero, one}
use Rattle.num.specs.Sign.{near_zero}
use Rattle.num.specs.Whole.{rounded}
use Rattle.names.specs.Ids.{aid_divisor}
use Rattle.svgtree.specs.Values.{Node}
use Rattle.fe.specs.Attributes.{number_or}

-- a total and the numbers of a list, "left to right", each sum rounded once
unfoldable pub sum_from : Float → List Float → Float
sum_from total [] = total
sum_from total (x ∷ xs) = sum_from (add binary32 total x) xs

abbrev pub million : Float
million = of_bits binary32 0x4974_2400

-- the kernel's sum: "left to right, × 1,000,000, half away from zero, ÷ 1,000,000". Rust's sum begins at -0, this one at +0: that shows in the
-- sign of a zero alone, which is near zero either way.
abbrev pub kernel_sum : List Float → Float
kernel_sum xs = div binary32 (rounded (mul binary32 (sum_from plus_zero xs) million)) million

-- the kernel's sum, and "near zero becomes 1". The document: the exact sum, and 1 where that is zero.
unfoldable pub default_divisor : List Float → Float
default_divisor xs = cond (near_zero (kernel_sum xs)) one (kernel_sum xs)

-- the given divisor, or that of the kernel where none is given
abbrev pub divisor_of : Node → List Float → Float
divisor_of n kernel = number_or n aid_divisor (default_divisor kernel)
