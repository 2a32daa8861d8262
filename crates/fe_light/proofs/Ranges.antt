-- The ranges of lighting hold of every node and its children. Assumes nothing.
use Rattle.tree.specs.declared.LightSource.{LightSource}
use Rattle.std.specs.Prelude.{None, Option, Some}
use mathlib.Core.Path.{◌≡◌, refl, sym, subst}
use mathlib.Core.Bool.{Bool, true, false, cond}
use mathlib.Core.List.{List}
use Prim.Native.Nat.{ℕ}
use lib.Dec.{T}
use lib.Ieee.{of_bits, le}
use Rattle.names.specs.Ids.{aid_specular_exponent, aid_surface_scale, aid_diffuse_constant, aid_specular_constant}
use Rattle.num.specs.Constants.{one}
use Rattle.num.specs.Numbers.{IsFinite}
use Rattle.num.specs.Sign.{positive}
use Rattle.num.proofs.Finite.{zero_finite}
use Rattle.num.proofs.Each.{◌and◌, each_all}
use Rattle.svgtree.specs.Values.{Node}
use Rattle.tree.specs.declared.SpecularLighting.{SpecularLighting}
use Rattle.fe.specs.Attributes.{number_or}
use Rattle.fe.proofs.Numbers.{node_finite, number_or_finite, one_finite, or_positive}
use Rattle.fe_light.specs.LightSource.{light_of, light_source_of}
use Rattle.fe_light.specs.LightingColor.{lighting_color_of}
use Rattle.fe_light.specs.DiffuseLighting.{diffuse_with, diffuse_lighting_of}
use Rattle.fe_light.specs.SpecularLighting.{exponent_in_range, specular_with, specular_lighting_of}
use Rattle.fe_light.specs.ProofRanges.{LightRange, DiffuseOk, SpecularOk}
use Rattle.fe_light.proofs.Numbers.{LightHolds, light_by_tag, first_holds, distant_holds, point_holds, spot_holds}

-- ---- light sources

one_positive : T (positive one)
unfolding of_bits le
one_positive = tt

light_ok_lem : (n : Node) → LightHolds LightRange (light_of n)
light_ok_lem n =
    let h = node_finite n in
    light_by_tag LightRange n
    (record { numbers = distant_holds IsFinite zero_finite one_finite n h; spot = tt })
    (record { numbers = point_holds IsFinite zero_finite one_finite n h; spot = tt })
    (record { numbers = spot_holds IsFinite zero_finite one_finite n h; spot = or_positive (number_or n aid_specular_exponent one) one one_positive })

pub light_source_ok : (children : List Node) → LightHolds LightRange (light_source_of children)
light_source_ok children = first_holds (λ n. Unit {0}) LightRange (λ n u. light_ok_lem n) children (each_all (λ n. Unit {0}) (λ n. tt) children)

-- ---- the two elements

one_or : (n : Node) (id : ℕ) → IsFinite (number_or n id one)
one_or n id = number_or_finite n id one one_finite

with_diffuse : (n : Node) (x : Option LightSource) → LightHolds LightRange x → DiffuseOk (diffuse_with n x)
with_diffuse n (Some l) h = record { numbers = one_or n aid_surface_scale and one_or n aid_diffuse_constant and h.numbers; spot = h.spot }
with_diffuse n None h = tt

pub diffuse_ok : (n : Node) (children : List Node) → DiffuseOk (diffuse_lighting_of n children)
diffuse_ok n children = with_diffuse n (light_source_of children) (light_source_ok children)

with_specular : (n : Node) (x : Option LightSource) → LightHolds LightRange x → SpecularOk (specular_with n x)
with_specular n (Some l) h = go (exponent_in_range (number_or n aid_specular_exponent one)) refl
  where
    value : SpecularLighting
    value =
        record {
          surface_scale = number_or n aid_surface_scale one;
          specular_constant = number_or n aid_specular_constant one;
          specular_exponent = number_or n aid_specular_exponent one;
          lighting_color = lighting_color_of n;
          light_source = l;
        }

    go : (b : Bool) → exponent_in_range (number_or n aid_specular_exponent one) ≡ b → SpecularOk (cond b (Some value) None)
    go true e =
        record {
          numbers = one_or n aid_surface_scale and one_or n aid_specular_constant and one_or n aid_specular_exponent and h.numbers;
          exponent = subst T (sym e) tt;
          spot = h.spot;
        }
    go false e = tt
with_specular n None h = tt

pub specular_ok : (n : Node) (children : List Node) → SpecularOk (specular_lighting_of n children)
specular_ok n children = with_specular n (light_source_of children) (light_source_ok children)
