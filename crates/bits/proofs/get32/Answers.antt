-- The number's bytes are the run at the place. Assumes nothing.
use mathlib.Core.Path.{◌∙◌}
use Rattle.bits.proofs.Runs.{from_le_bytes-run_4}
use Rattle.bits.proofs.get32.Goals as goal

pub returns : goal.returns
returns c = rw c.bytes_at.ensures at c.from_le_bytes.ensures ∙ from_le_bytes-run_4 c.args.s.now c.args.at
