-- What holds of 0, of 1 and of the numbers of a node's values holds of every number of the light source that the node is; and what holds of the light
-- source that any child is holds of the first of them. Assumes nothing.
use Rattle.std.specs.Prelude.{None, Option, Some}
use Prim.Native.Nat.{ℕ}
use mathlib.Core.List.{List, [], ◌∷◌}
use lib.Dec.{eqb}
use lib.Ieee.{Float}
use Rattle.names.specs.Ids.{eid_fe_distant_light, eid_fe_point_light, eid_fe_spot_light, aid_azimuth, aid_elevation, aid_x, aid_y, aid_z, aid_points_at_x, aid_points_at_y, aid_points_at_z, aid_specular_exponent, aid_limiting_cone_angle}
use Rattle.num.specs.Constants.{plus_zero, one}
use Rattle.num.specs.Numbers.{Each}
use Rattle.num.specs.Sign.{positive}
use Rattle.num.proofs.Each.{◌and◌, choose}
use Rattle.svgtree.specs.Values.{Node, Value, absent, text_value, number_value, numbers_value, length_value, color_value, tries_value}
use Rattle.svgtree.specs.Readers.{number_in, value_under}
use Rattle.tree.specs.declared.LightSource.{LightSource}
use Rattle.tree.specs.declared.LightSource.TheVariants.{DistantLight, PointLight, SpotLight}
use Rattle.fe.specs.Attributes.{number_or}
use Rattle.fe.proofs.Numbers.{ValueHolds, NodeHolds, number_or_lem}
use Rattle.fe_light.specs.LightSource.{distant_light_of, point_light_of, spot_light_of, light_of, or_later, light_source_of}
use Rattle.fe_light.specs.Ranges.{option_numbers, light_numbers}

abbrev pub LightHolds : (LightSource → Type 0) → Option LightSource → Type 0
LightHolds Q (Some l) = Q l
LightHolds Q None = Unit {0}

-- ---- by the tag

pub light_by_tag : (Q : LightSource → Type 0) (n : Node) → Q (DistantLight (distant_light_of n)) → Q (PointLight (point_light_of n)) → Q (SpotLight (spot_light_of n)) → LightHolds Q (light_of n)
unfolding light_of
light_by_tag Q n d p s =
    choose (LightHolds Q) (eqb n.tag eid_fe_distant_light) (Some (DistantLight (distant_light_of n))) _ d
    (choose (LightHolds Q) (eqb n.tag eid_fe_point_light) (Some (PointLight (point_light_of n))) _ p
    (choose (LightHolds Q) (eqb n.tag eid_fe_spot_light) (Some (SpotLight (spot_light_of n))) None s tt))

-- ---- the first among children

module _ (R : Node → Type 0) (Q : LightSource → Type 0) (child : (n : Node) → R n → LightHolds Q (light_of n)) where
  later_holds : (x y : Option LightSource) → LightHolds Q x → LightHolds Q y → LightHolds Q (or_later x y)
  later_holds (Some l) y h k = h
  later_holds None y h k = k

  pub first_holds : (children : List Node) → Each R children → LightHolds Q (light_source_of children)
  unfolding light_source_of
  first_holds [] h = tt
  first_holds (n ∷ rest) h = later_holds (light_of n) (light_source_of rest) (child n h.0) (first_holds rest h.1)

-- ---- the numbers

module _ (P : Float → Type 0) where
  option_holds : (v : Value) → ValueHolds P v → Each P (option_numbers (number_in v))
  unfolding number_in
  option_holds absent h = tt
  option_holds (text_value t) h = tt
  option_holds (number_value x) h = (h, tt)
  option_holds (numbers_value xs) h = tt
  option_holds (length_value u x) h = tt
  option_holds (color_value k) h = tt
  option_holds (tries_value t) h = tt

module _ (P : Float → Type 0) (zero-holds : P plus_zero) (one-Holds : P one) (n : Node) (h : NodeHolds P n) where
  zero_or : (id : ℕ) → P (number_or n id plus_zero)
  zero_or id = number_or_lem P n h id plus_zero zero-holds

  exponent_holds : P (number_or n aid_specular_exponent one)
  exponent_holds = number_or_lem P n h aid_specular_exponent one one-Holds

  pub distant_holds : Each P (light_numbers (DistantLight (distant_light_of n)))
  distant_holds = zero_or aid_azimuth and zero_or aid_elevation and tt

  pub point_holds : Each P (light_numbers (PointLight (point_light_of n)))
  point_holds = zero_or aid_x and zero_or aid_y and zero_or aid_z and tt

  pub spot_holds : Each P (light_numbers (SpotLight (spot_light_of n)))
  spot_holds =
      zero_or aid_x and zero_or aid_y and zero_or aid_z
      and zero_or aid_points_at_x and zero_or aid_points_at_y and zero_or aid_points_at_z
      and choose P (positive (number_or n aid_specular_exponent one)) (number_or n aid_specular_exponent one) one exponent_holds one-Holds
      and option_holds P (value_under aid_limiting_cone_angle n.attributes) (h aid_limiting_cone_angle)

  pub light_holds : LightHolds (λ (l : LightSource). Each P (light_numbers l)) (light_of n)
  light_holds = light_by_tag (λ (l : LightSource). Each P (light_numbers l)) n distant_holds point_holds spot_holds
