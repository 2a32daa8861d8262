-- Below 2^48 an entry is a text, from there on a number. Assumes nothing.
use mathlib.Core.Path.{sym, ap, ◌∙◌}
use Rattle.bits.specs.Texts.{text_is}
use Rattle.bits.specs.declared.Text.{Text}
use Rattle.naming.specs.Names.{Own}
use Rattle.results.proofs.Entries.{is_text, is_number}
use Rattle.results.proofs.table.Entry.name.Goals as goal

pub returns-then-self-lt-FIRST_MADE : goal.returns-then-self-lt-FIRST_MADE
returns-then-self-lt-FIRST_MADE c =
    let below = rw c.self.view_is at c.if-self-lt-FIRST_MADE.true in
    record { exact = λ s. ap (λ (u : Text). Own (text_is s u)) c.text.ensures ∙ sym (is_text s c.args.self below) }

pub returns : goal.returns
returns c =
    let above = rw c.self.view_is at c.if-self-lt-FIRST_MADE.false in
    record { exact = λ s. rw c.self.view_is (sym (is_number s c.args.self above)) }
