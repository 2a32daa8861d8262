-- Five writers in a row are one; the two enums are written by their places. Assumes nothing.
use native.Mathlib.Omega.{arith}
use Rattle.bits.proofs.Writing.{◌then◌, ◌counted◌}
use Rattle.tree.specs.Fields.{convolve_matrix_bytes}
use Rattle.list_values.proofs.fields.ConvolveMatrixToList.put_to.Goals as goal

pub returns : goal.returns
unfolding convolve_matrix_bytes
returns c =
    rw (← c.from.ensures, ← c.from-2.ensures) (c.put_to.ensures then c.put.ensures then c.put-2.ensures then c.put-3.ensures then c.put-4.ensures counted omega arith)
