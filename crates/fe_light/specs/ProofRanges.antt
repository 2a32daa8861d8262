-- What the proofs carry of a light, and of an answer that may have no value. Definitions only.
use Rattle.tree.specs.declared.SpecularLighting.{SpecularLighting}
use Rattle.tree.specs.declared.DiffuseLighting.{DiffuseLighting}
use Rattle.std.specs.Prelude.{T, None, Option, Some}
use Rattle.num.specs.Numbers.{IsFinite, Each}
use Rattle.tree.specs.declared.LightSource.{LightSource}
use Rattle.fe_light.specs.Ranges.{light_numbers, light_in_range, DiffuseRange, SpecularRange}

pub record LightRange (l : LightSource) : Type 0 where
  pub numbers : Each IsFinite (light_numbers l)
  pub spot : T (light_in_range l)

-- the range of what is answered; where there is no value there is nothing to say

abbrev pub DiffuseOk : Option DiffuseLighting → Type 0
DiffuseOk (Some v) = DiffuseRange v
DiffuseOk None = Unit {0}

abbrev pub SpecularOk : Option SpecularLighting → Type 0
SpecularOk (Some v) = SpecularRange v
SpecularOk None = Unit {0}
