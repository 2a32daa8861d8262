-- The slope is the narrowed amount; the code's operations on it are the definition's. Assumes nothing.
use mathlib.Core.Path.{ap}
use lib.Ieee.{Float, of_bits, round}
use Rattle.num.specs.Means.{double_of}
use Rattle.tree.specs.declared.TransferFunction.TheVariants.{Linear}
use Rattle.function_amounts.specs.Amounts.{contrast_intercept}
use Rattle.function_amounts.proofs.convert_contrast_function.Goals as goal

pub returns : goal.returns
unfolding double_of contrast_intercept round of_bits
returns c = ap (λ (a : Float). Linear a (contrast_intercept a)) c.double_narrowed-slope.ensures
