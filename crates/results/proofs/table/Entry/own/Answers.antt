-- The place below, the mark above: `own_entry`. Assumes nothing.
use native.Mathlib.Omega.{arith}
use Rattle.results.proofs.Entries.{own_entry}
use Rattle.results.proofs.table.Entry.own.Goals as goal

pub returns : goal.returns
returns c = rw c.from.ensures (own_entry c.args.s.now c.args.t c.mark.result (omega arith) (omega arith) c.mark.ensures.0)
