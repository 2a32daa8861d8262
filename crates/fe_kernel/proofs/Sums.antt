-- The kernel's sum, one number at a time, and that it is no NaN. Assumes nothing.
use mathlib.Core.List.{List, [], ◌∷◌}
use lib.Dec.{T}
use lib.Ieee.{Float, binary32, add, mul, of_bits, is_nan}
use Rattle.num.specs.Constants.{plus_zero, one}
use Rattle.num.specs.Numbers.{IsFinite, IsNumber, Each}
use Rattle.num.specs.Sign.{near_zero}
use Rattle.num.specs.Whole.{rounded}
use Rattle.num.proofs.Laws.{nonzero, finite_num, cond_num, add_num_left, mul_num_left, div_num}
use Rattle.num.proofs.Finite.{zero_finite}
use Rattle.num.proofs.Wholes.{rounded_num}
use Rattle.fe_kernel.specs.Divisor.{sum_from, million, kernel_sum, default_divisor}

sum_num : (t : Float) (xs : List Float) → IsNumber t → Each IsFinite xs → IsNumber (sum_from t xs)
unfolding sum_from
sum_num t [] h f = h
sum_num t (x ∷ xs) h f = sum_num (add binary32 t x) xs (add_num_left binary32 t x h f.0) f.1

million_nonzero : T (nonzero million)
unfolding of_bits
million_nonzero = tt

one_num : IsNumber one
unfolding of_bits is_nan
one_num = tt

-- the sum may be an infinity, which is kept by the rounding
pub divisor_num : (xs : List Float) → Each IsFinite xs → IsNumber (default_divisor xs)
unfolding default_divisor
divisor_num xs f =
    let total = sum_from plus_zero xs in
    let product : IsNumber (mul binary32 total million) = mul_num_left binary32 total million (sum_num plus_zero xs (finite_num plus_zero zero_finite) f) million_nonzero in
    cond_num (near_zero (kernel_sum xs)) one (kernel_sum xs) one_num
    (div_num binary32 (rounded (mul binary32 total million)) million (rounded_num (mul binary32 total million) product) million_nonzero)
