-- Four writers in a row are one. Assumes nothing.
use native.Mathlib.Omega.{arith}
use Rattle.bits.proofs.Writing.{◌then◌, ◌counted◌}
use Rattle.tree.specs.Fields.{diffuse_lighting_bytes}
use Rattle.list_values.proofs.fields.DiffuseLightingToList.put_to.Goals as goal

pub returns : goal.returns
unfolding diffuse_lighting_bytes
returns c =
    c.put.ensures then c.put-2.ensures then c.put_to.ensures then c.put_to-2.ensures counted omega arith
