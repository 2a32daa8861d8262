-- Four writers in a row are one. Assumes nothing.
use native.Mathlib.Omega.{arith}
use Rattle.bits.proofs.Writing.{◌then◌, ◌counted◌}
use Rattle.tree.specs.Fields.{spot_light_bytes}
use Rattle.list_values.proofs.fields.SpotLightToList.put_to.Goals as goal

pub returns : goal.returns
unfolding spot_light_bytes
returns c =
    c.put_triple.ensures then c.put_triple-2.ensures then c.put.ensures then c.put_to.ensures counted omega arith
