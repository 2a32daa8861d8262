-- The count and then the bytes: two writers in a row are one. Assumes nothing.
use Rattle.bits.proofs.Runs.{length-bytes_from}
use Rattle.bits.proofs.Writing.{◌then◌}
use Rattle.tree.specs.Input.{text_bytes}
use Rattle.list_values.proofs.TextToList.put_to.Goals as goal

pub returns : goal.returns
unfolding text_bytes
returns c = rw (length-bytes_from, ← c.from-n.ensures) (c.put.ensures then c.copy.ensures)
