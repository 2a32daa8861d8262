-- Each arm writes its inputs, one after the other; a Vec has as many as it has nodes. Assumes nothing.
use native.Mathlib.Omega.{arith}
use mathlib.Core.Path.{ap, ◌∙◌}
use Rattle.bits.specs.Bytes.{bytes16}
use Rattle.bits.proofs.Writing.{◌then◌}
use Rattle.list_primitives.proofs.Merges.{inputs_long}
use Rattle.list_primitives.proofs.Parts.{inputs_bytes_at, writes_like}
use Rattle.list_primitives.proofs.put_inputs.Goals as goal

pub returns-in-Merge : goal.returns-in-Merge
unfolding bytes16
returns-in-Merge c =
    let n = c.args.names.now in
    writes_like (ap (inputs_bytes_at n.bytes.now n.entries.now) c.in-Merge.is ∙ rw inputs_long) (c.put.ensures then c.put_merge.ensures) (rw c.in-Merge.is (omega arith))
