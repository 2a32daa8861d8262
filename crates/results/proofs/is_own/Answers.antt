-- With another mark the text is another; with the same it is compared. Assumes nothing.
use mathlib.Core.Path.{sym, ◌∙◌}
use mathlib.Core.List.{◌++◌}
use Rattle.bits.specs.Texts.{text_is}
use Rattle.naming.specs.Names.{w_result}
use Rattle.naming.proofs.Words.{same_comm}
use Rattle.results.specs.Means.{entry_text}
use Rattle.results.proofs.Entries.{own_hit, own_skip}
use Rattle.results.proofs.is_own.Goals as goal

pub returns-then-mark : goal.returns-then-mark
returns-then-mark c =
    let a = c.args in
    let t = w_result ++ a.digits.now in
    rw (own_hit a.s.now a.e t c.requires.0 (sym c.mark.ensures ∙ c.if-mark.true ∙ c.requires.1)) (c.is_result.ensures ∙ rw c.text_of_length.ensures (same_comm (text_is a.s.now (entry_text a.e)) t))

pub returns : goal.returns
returns c =
    let a = c.args in
    sym (own_skip a.s.now a.e (w_result ++ a.digits.now) c.requires.0 (λ p. c.if-mark.false (c.mark.ensures ∙ p ∙ sym c.requires.1)))
