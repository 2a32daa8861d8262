-- `num::octaves` meets its contract: a set sign gives 0; else the library rounds a half to the even one, which no f32 exceeds, and cuts. Assumes nothing.
use mathlib.Core.Path.{ap, subst, sym, ◌∙◌}
use lib.Dec.{T}
use lib.Ieee.{to_unsigned}
use Rattle.num.proofs.Wholes.{octaves_none, octaves_same}
use Rattle.num.proofs.octaves.Goals as goal

pub returns-then-is_sign_negative : goal.returns-then-is_sign_negative
returns-then-is_sign_negative c = octaves_none c.args.x (sym c.is_sign_negative.ensures ∙ c.if-is_sign_negative.true)

pub returns : goal.returns
returns c =
    c.saturating_f32_to_u32.ensures
    ∙ ap (to_unsigned 32) c.round_ties_even.ensures
    ∙ octaves_same c.args.x (subst T (sym c.well_formed.0.1) tt) (sym c.is_sign_negative.ensures ∙ c.if-is_sign_negative.false)
