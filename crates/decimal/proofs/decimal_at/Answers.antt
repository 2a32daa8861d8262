-- A sign, the first digits and what follows them: `item_of` reads the same parts in the same order. Assumes nothing.
use Rattle.decimal.proofs.Parts.{word_is}
use Rattle.decimal.proofs.Signs.{minus_is}
use Rattle.decimal.specs.Means.{held_in}
use mathlib.Core.Path.{sym, ap, ◌∙◌}
use Rattle.decimal.proofs.decimal_at.Goals as goal

pub returns : goal.returns
returns c =
    let d = rw c.unsigned-text.ensures at c.digit_run-first.ensures.digits in
    let h = rw (c.behind.ensures.0, c.unsigned-text.ensures) at c.after_digits.ensures in
    h _ (sym d.many) d.number ∙ ap held_in (word_is _ _ _ _ _ (c.starts_with-minus.ensures ∙ minus_is _) d)
