-- The sum of all numbers is that of the total and the numbers that are left. Assumes nothing.
use mathlib.Core.Path.{◌≡◌}
use Rattle.number_list.specs.Lists.{numbers_is, numbers_left}
use Rattle.num.specs.Constants.{plus_zero}
use Rattle.fe_kernel.specs.Divisor.{sum_from}
use Rattle.fe_kernel.proofs.divisor.sum.Given as goal

abbrev pub invariant-loop-number : goal.invariant-loop-number
invariant-loop-number l = sum_from plus_zero (numbers_is l.s l.fn.kernel) ≡ sum_from l.total (numbers_left l.number-iterator)
