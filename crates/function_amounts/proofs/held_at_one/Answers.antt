-- By cases on the comparison with 1, of what the bits stand for; 1 narrowed is 1. Assumes nothing.
use mathlib.Core.Path.{◌≡◌, refl, sym, ap, ◌∙◌}
use lib.Ieee.{of_bits, round, lt}
use Rattle.num.specs.Narrowed.{narrowed, as_f32, or_zero}
use Rattle.num.specs.Constants.{one}
use Rattle.num.specs.Means.{double_of}
use Rattle.function_amounts.specs.Amounts.{one64, held}
use Rattle.function_amounts.proofs.held_at_one.Goals as goal

one_narrowed : one ≡ as_f32 one64
unfolding narrowed or_zero of_bits round
one_narrowed = refl

pub returns-then-f64_from_bits_with_nan : goal.returns-then-f64_from_bits_with_nan
unfolding held
returns-then-f64_from_bits_with_nan c =
    rw (sym (ap (lt one64) c.f64_from_bits_with_nan.ensures) ∙ c.if-f64_from_bits_with_nan.true) one_narrowed

pub returns-else-f64_from_bits_with_nan : goal.returns-else-f64_from_bits_with_nan
unfolding held double_of
returns-else-f64_from_bits_with_nan c =
    rw (sym (ap (lt one64) c.f64_from_bits_with_nan.ensures) ∙ c.if-f64_from_bits_with_nan.false) c.double_narrowed.ensures
