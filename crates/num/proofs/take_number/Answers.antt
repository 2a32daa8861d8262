-- `num::take_number` meets its contract: the narrowed bits stand for the narrowed number, since an f32 holds it. Assumes nothing.
use mathlib.Core.Path.{ap, ◌∙◌}
use lib.Ieee.{binary64, of_bits}
use Rattle.num.specs.Means.{if_finite}
use Rattle.num.proofs.Finite.{narrowed_back}
use Rattle.num.proofs.take_number.Goals as goal

pub returns : goal.returns
returns c = c.take_single.ensures ∙ ap if_finite (narrowed_back (of_bits binary64 c.args.bits) c.narrow.result c.narrow.ensures)
