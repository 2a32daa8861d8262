-- Cases of `stdDeviation` and of its scaling, each found by computing.
use Rattle.std.specs.Prelude.{◌≡◌, refl, [], ◌∷◌, Float, None, Option, Some}
use Rattle.std.specs.Float.{binary32, binary64}
use Rattle.std.specs.Float.Ieee.{of_bits, mul, round, le}
use Rattle.names.specs.Ids.{eid_fe_gaussian_blur, aid_std_deviation}
use Rattle.num.specs.Constants.{plus_zero, one, two}
use Rattle.num.specs.Narrowed.{narrowed, or_zero}
use Rattle.geom.specs.declared.Size.{Size}
use Rattle.svgtree.specs.Values.{Node, Tried, tries_value}
use Rattle.svgtree.specs.Readers.{value_under, tries_in}
use Rattle.fe.specs.Pairs.{pair_of}
use Rattle.fe_blur.specs.GaussianBlur.{deviation, deviations_of}

-- a node with nothing but the tries at `stdDeviation`
abbrev trying : Tried → Node
trying t = record { depth = 0; tag = eid_fe_gaussian_blur; font_size = plus_zero; attributes = record { id = aid_std_deviation; value = tries_value t } ∷ [] }

-- a try that gave 1, and one that gave 2
abbrev tried_one : Option Float
tried_one = Some (of_bits binary64 0x3ff0_0000_0000_0000)

abbrev tried_two : Option Float
tried_two = Some (of_bits binary64 0x4000_0000_0000_0000)

abbrev one_by_one : Size
one_by_one = record { width = one; height = one }

-- number, number, error gives both; one number stands for both
pub two_numbers : deviations_of (trying (record { first = tried_one; second = tried_two; third = None })) one_by_one two ≡ pair_of one two
unfolding value_under tries_in deviation or_zero narrowed mul le round of_bits
two_numbers = refl

pub one_number : deviations_of (trying (record { first = tried_two; second = None; third = None })) one_by_one two ≡ pair_of two two
unfolding value_under tries_in deviation or_zero narrowed mul le round of_bits
one_number = refl

-- "Comparing deviations with 0 before scaling" is a misreading: the largest f32 is positive, and its double is not, being infinite
pub scaled_then_compared : deviation (of_bits binary32 0x7f7f_ffff) two ≡ plus_zero
unfolding deviation mul le round of_bits
scaled_then_compared = refl

-- -0 is positive, and stays
pub minus_zero : deviation (of_bits binary32 0x8000_0000) two ≡ of_bits binary32 0x8000_0000
unfolding deviation mul le round of_bits
minus_zero = refl
