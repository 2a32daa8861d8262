-- Five writers in a row are one. Assumes nothing.
use native.Mathlib.Omega.{arith}
use Rattle.bits.proofs.Writing.{◌then◌, ◌counted◌}
use Rattle.tree.specs.Fields.{convolve_matrix_data_bytes}
use Rattle.list_values.proofs.fields.ConvolveMatrixDataToList.put_to.Goals as goal

pub returns : goal.returns
unfolding convolve_matrix_data_bytes
returns c =
    c.put.ensures then c.put-2.ensures then c.put-3.ensures then c.put-4.ensures then c.put_to.ensures counted omega arith
