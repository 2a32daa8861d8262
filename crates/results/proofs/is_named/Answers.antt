-- The key has the text for its name; with another mark a text is another; with the same it is compared. Assumes nothing.
use mathlib.Core.Path.{sym, ◌∙◌}
use Prim.Native.Nat.{◌/◌}
use native.Mathlib.Omega.{arith}
use borrow.Author.Tests.{eqb-false}
use Rattle.bits.specs.Texts.{text_is}
use Rattle.results.proofs.Entries.{mark_length, own_hit, key_skip}
use Rattle.results.proofs.is_named.Goals as goal

pub text_of_length-requires : goal.text_of_length-requires
text_of_length-requires c =
    let a = c.args in
    mark_length a.s.now a.t (a.e / 4294967296) (omega arith) (sym c.mark.ensures ∙ c.if-mark.true ∙ c.requires.1)

pub returns-then-mark : goal.returns-then-mark
returns-then-mark c =
    let a = c.args in
    rw (own_hit a.s.now a.e (text_is a.s.now a.t) c.requires.0 (sym c.mark.ensures ∙ c.if-mark.true ∙ c.requires.1)) (c.same_text.ensures ∙ rw c.text_of_length.ensures)

pub returns : goal.returns
returns c =
    let a = c.args in
    sym (key_skip a.s.now a.e (text_is a.s.now a.t) c.requires.0 a.key c.requires.2 (eqb-false a.e a.key (sym c.eq.ensures ∙ c.if-eq.false)) (λ p. c.if-mark.false (c.mark.ensures ∙ p ∙ sym c.requires.1)))
