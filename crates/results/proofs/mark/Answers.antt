-- A text's last byte and its length, by `mark_text`; the empty text has neither. Assumes nothing.
use native.Mathlib.Omega.{arith}
use mathlib.Core.Path.{sym, ◌∙◌}
use Rattle.results.proofs.Entries.{mark_none, mark_text}
use Rattle.results.proofs.mark.Goals as goal

pub returns-then-t-eq0 : goal.returns-then-t-eq0
returns-then-t-eq0 c = (sym (mark_none c.args.s.now c.args.t.at c.args.t.len c.if-t-eq0.true), omega arith)

pub returns : goal.returns
returns c =
    let t = c.args.t in
    (c.mark_with.ensures.0 ∙ sym (mark_text c.args.s.now t.at t.len c.byte.result (omega arith) (omega arith) (omega arith) c.byte.ensures), c.mark_with.ensures.1)
