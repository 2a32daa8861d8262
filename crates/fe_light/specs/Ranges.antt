-- What holds of every value that the definitions of lighting give: document 01, "Ranges", and that every number is finite. Definitions only.
use Rattle.std.specs.Prelude.{Bool, true, List, [], ◌∷◌, T, Float, None, Option, Some}
use Rattle.num.specs.Numbers.{IsFinite, Each}
use Rattle.num.specs.Sign.{positive}
use Rattle.tree.specs.declared.LightSource.{LightSource}
use Rattle.tree.specs.declared.LightSource.TheVariants.{DistantLight, PointLight, SpotLight}
use Rattle.tree.specs.declared.DiffuseLighting.{DiffuseLighting}
use Rattle.tree.specs.declared.SpecularLighting.{SpecularLighting}
use Rattle.fe_light.specs.SpecularLighting.{exponent_in_range}

-- the f32 that are written for a value, in their order

abbrev pub option_numbers : Option Float → List Float
option_numbers None = []
option_numbers (Some x) = x ∷ []

abbrev pub light_numbers : LightSource → List Float
light_numbers (DistantLight l) = l.azimuth ∷ l.elevation ∷ []
light_numbers (PointLight l) = l.x ∷ l.y ∷ l.z ∷ []
light_numbers (SpotLight l) = l.x ∷ l.y ∷ l.z ∷ l.points_at_x ∷ l.points_at_y ∷ l.points_at_z ∷ l.specular_exponent ∷ option_numbers l.limiting_cone_angle

abbrev pub diffuse_numbers : DiffuseLighting → List Float
diffuse_numbers v = v.surface_scale ∷ v.diffuse_constant ∷ light_numbers v.light_source

abbrev pub specular_numbers : SpecularLighting → List Float
specular_numbers v = v.surface_scale ∷ v.specular_constant ∷ v.specular_exponent ∷ light_numbers v.light_source

-- "a spot light's exponent [is] positive as above"
abbrev pub light_in_range : LightSource → Bool
light_in_range (DistantLight l) = true
light_in_range (PointLight l) = true
light_in_range (SpotLight l) = positive l.specular_exponent

pub record DiffuseRange (v : DiffuseLighting) : Type 0 where
  pub numbers : Each IsFinite (diffuse_numbers v)
  pub spot : T (light_in_range v.light_source)

-- "specular lighting's exponent is 1 to 128"
pub record SpecularRange (v : SpecularLighting) : Type 0 where
  pub numbers : Each IsFinite (specular_numbers v)
  pub exponent : T (exponent_in_range v.specular_exponent)
  pub spot : T (light_in_range v.light_source)
