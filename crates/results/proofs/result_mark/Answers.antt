-- The last digit and the length, with the six bytes of `result` before them. Assumes nothing.
use native.Mathlib.Omega.{arith}
use mathlib.Core.Path.{sym, ap, ◌∙◌}
use lib.ListN.{length}
use Rattle.results.proofs.Entries.{mark_result_none, mark_result}
use Rattle.results.proofs.Tables.{last_some, last_none}
use Rattle.results.proofs.result_mark.Goals as goal

pub returns-in-None : goal.returns-in-None
returns-in-None c = (c.mark_with-in-None.ensures.0 ∙ sym (mark_result_none c.args.digits.now (ap length (last_none c.args.digits.now c.in-None.ensures.value))), c.mark_with-in-None.ensures.1)

pub returns-in-Some : goal.returns-in-Some
returns-in-Some c =
    let last = last_some c.args.digits.now c.in-Some.d.now c.in-Some.ensures.value in
    (omega (arith, c.mark_with.ensures.0, mark_result c.args.digits.now c.in-Some.d.now last.0 (omega arith) last.1), c.mark_with.ensures.1)
