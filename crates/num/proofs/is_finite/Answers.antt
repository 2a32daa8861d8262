-- `num::is_finite` meets its contract: the library's `is_finite` says the same. Assumes nothing.
use mathlib.Core.Path.{◌∙◌}
use Rattle.num.proofs.Library.{finite_same}
use Rattle.num.proofs.is_finite.Goals as goal

pub returns : goal.returns
returns c = c.is_finite.ensures.value ∙ finite_same c.args.x
