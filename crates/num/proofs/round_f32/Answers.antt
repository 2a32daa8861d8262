-- `num::round_f32` meets its contract: the library's `round` is `rounded`. Assumes nothing.
use mathlib.Core.Path.{◌∙◌}
use Rattle.num.proofs.Wholes.{round_same}
use Rattle.num.proofs.round_f32.Goals as goal

pub returns : goal.returns
returns c = c.round.ensures ∙ round_same c.args.x
