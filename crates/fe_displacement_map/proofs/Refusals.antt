-- feDisplacementMap is refused in one way only, as unrepresentable. Assumes nothing.
use Rattle.std.specs.Prelude.{Err, Ok}
use mathlib.Core.Path.{◌≡◌}
use mathlib.Core.Bool.{Bool, true, false, cond}
use lib.Ieee.Scale.{finite}
use Rattle.answer.specs.declared.Refusal.{Refusal}
use Rattle.answer.specs.declared.Refusal.TheVariants.{Unrepresentable}
use Rattle.geom.specs.declared.Size.{Size}
use Rattle.svgtree.specs.Values.{Node}
use Rattle.fe_displacement_map.specs.DisplacementMap.{box_sum, displacement_with, displacement_map_of}

pub displacement_refusal : (n : Node) (scale : Size) (why : Refusal) → displacement_map_of n scale ≡ Err why → why ≡ Unrepresentable
displacement_refusal n scale why e = go (finite (box_sum scale)) e
  where
    go : (b : Bool) → cond b (Ok (displacement_with n (box_sum scale))) (Err Unrepresentable) ≡ Err why → why ≡ Unrepresentable
    go true e = cc
    go false e = cc
