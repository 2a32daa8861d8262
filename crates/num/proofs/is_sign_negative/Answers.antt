-- `num::is_sign_negative` meets its contract: the library's says the same of what is no NaN, and a NaN has no sign. Assumes nothing.
use mathlib.Core.Path.{ap, sym, ◌∙◌}
use mathlib.Core.Bool.{not}
use Rattle.num.proofs.Library.{sign_same, nan_no_sign}
use Rattle.num.proofs.is_sign_negative.Goals as goal

pub returns-then-not-is_nan : goal.returns-then-not-is_nan
returns-then-not-is_nan c = c.is_sign_negative.ensures ∙ sign_same c.args.x

pub returns-else-not-is_nan : goal.returns-else-not-is_nan
returns-else-not-is_nan c = ap not c.if-not-is_nan.false ∙ nan_no_sign c.args.x (sym c.is_nan.ensures.value ∙ c.if-not-is_nan.false)
