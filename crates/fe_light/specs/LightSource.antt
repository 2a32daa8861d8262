-- Light sources: feDistantLight, fePointLight and feSpotLight of the W3C document Filter Effects Module Level 1. Definitions only.
use Rattle.tree.specs.declared.LightSource.{LightSource}
use Rattle.std.specs.Prelude.{cond, List, [], ◌∷◌, eqb, Float, None, Option, Some}
use Rattle.num.specs.Constants.{plus_zero, one}
use Rattle.num.specs.Sign.{positive}
use Rattle.names.specs.Ids.{eid_fe_distant_light, eid_fe_point_light, eid_fe_spot_light, aid_azimuth, aid_elevation, aid_x, aid_y, aid_z, aid_points_at_x, aid_points_at_y, aid_points_at_z, aid_specular_exponent, aid_limiting_cone_angle}
use Rattle.svgtree.specs.Values.{Node}
use Rattle.svgtree.specs.Readers.{number_of}
use Rattle.fe.specs.Attributes.{number_or}
use Rattle.tree.specs.declared.DistantLight.{DistantLight as DistantLightFields}
use Rattle.tree.specs.declared.PointLight.{PointLight as PointLightFields}
use Rattle.tree.specs.declared.SpotLight.{SpotLight as SpotLightFields}
use Rattle.tree.specs.declared.LightSource.TheVariants.{DistantLight, PointLight, SpotLight}

-- feDistantLight: the direction of the light as two angles, each 0 where it is absent
abbrev pub distant_light_of : Node → DistantLightFields
distant_light_of n = record { azimuth = number_or n aid_azimuth plus_zero; elevation = number_or n aid_elevation plus_zero }

-- fePointLight: the place of the light, each coordinate 0 where it is absent. The document: coordinates in the units that `primitiveUnits`
-- names; the crate: the numbers as they are, whatever the units.
abbrev pub point_light_of : Node → PointLightFields
point_light_of n = record { x = number_or n aid_x plus_zero; y = number_or n aid_y plus_zero; z = number_or n aid_z plus_zero }

-- feSpotLight: the exponent that focuses the light, 1 where it is absent. The document: any number (not certain). The crate: 1 in place of a number that
-- is not "positive": "a spot light's exponent [is] positive as above", that is, "finite and ≥ 0; −0 passes".
abbrev pub spot_exponent_of : Node → Float
spot_exponent_of n = cond (positive (number_or n aid_specular_exponent one)) (number_or n aid_specular_exponent one) one

-- feSpotLight: the place of the light and the place it points at, each coordinate 0 where it is absent, and the angle of the cone that limits
-- the light: none where it is absent. As for fePointLight the crate takes the coordinates as they are.
abbrev pub spot_light_of : Node → SpotLightFields
spot_light_of n =
    record {
      x = number_or n aid_x plus_zero;
      y = number_or n aid_y plus_zero;
      z = number_or n aid_z plus_zero;
      points_at_x = number_or n aid_points_at_x plus_zero;
      points_at_y = number_or n aid_points_at_y plus_zero;
      points_at_z = number_or n aid_points_at_z plus_zero;
      specular_exponent = spot_exponent_of n;
      limiting_cone_angle = number_of n aid_limiting_cone_angle;
    }

-- the light source that a child is, by its tag
unfoldable pub light_of : Node → Option LightSource
light_of n =
    cond (eqb n.tag eid_fe_distant_light) (Some (DistantLight (distant_light_of n)))
    (cond (eqb n.tag eid_fe_point_light) (Some (PointLight (point_light_of n)))
    (cond (eqb n.tag eid_fe_spot_light) (Some (SpotLight (spot_light_of n))) None))

abbrev pub or_later : Option LightSource → Option LightSource → Option LightSource
or_later (Some l) later = Some l
or_later None later = later

-- the light source of a lighting element: the first among its children. The document: exactly one child is a light source. The crate: the first counts, and
-- where there is none the transparent black flood stands for the element.
unfoldable pub light_source_of : List Node → Option LightSource
light_source_of [] = None
light_source_of (n ∷ rest) = or_later (light_of n) (light_source_of rest)
