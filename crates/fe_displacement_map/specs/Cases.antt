-- A box that is refused, found by computing.
use Rattle.std.specs.Prelude.{◌≡◌, refl, [], Err}
use Rattle.std.specs.Float.Ieee.{add, round}
use Rattle.answer.specs.declared.Refusal.TheVariants.{Unrepresentable}
use Rattle.names.specs.Ids.{eid_fe_displacement_map}
use Rattle.num.specs.Constants.{plus_zero}
use Rattle.geom.specs.Geometry.{largest}
use Rattle.svgtree.specs.Values.{Node}
use Rattle.fe_displacement_map.specs.DisplacementMap.{displacement_map_of}

-- a node without attributes
abbrev bare : Node
bare = record { depth = 0; tag = eid_fe_displacement_map; font_size = plus_zero; attributes = [] }

-- width + height is not finite
pub box_refused : displacement_map_of bare (record { width = largest; height = largest }) ≡ Err Unrepresentable
unfolding add round
box_refused = refl
