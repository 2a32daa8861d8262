-- `made_entry` at the number. Assumes nothing.
use native.Mathlib.Omega.{arith}
use Rattle.results.proofs.Entries.{made_entry}
use Rattle.results.proofs.table.Entry.made.Goals as goal

pub returns : goal.returns
returns c = made_entry c.args.k _ (omega arith) (omega (arith, c.from.ensures))
