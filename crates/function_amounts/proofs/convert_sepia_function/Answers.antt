-- The code's operations are the definition's, on the held amount; its literals are the f32 nearest to the fractions. Assumes nothing.
use mathlib.Core.Path.{ap}
use lib.Ieee.{of_bits, round}
use Rattle.function_amounts.specs.Amounts.{sepia_matrix}
use Rattle.function_amounts.proofs.convert_sepia_function.Goals as goal

pub returns : goal.returns
unfolding sepia_matrix round of_bits
returns c = ap sepia_matrix c.held_at_one-rest.ensures
