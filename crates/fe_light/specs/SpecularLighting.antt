-- feSpecularLighting of the W3C document Filter Effects Module Level 1. The crate does not read the document's `kernelUnitLength`; in a sheet its id is not
-- in the layout. Definitions only.
use Rattle.tree.specs.declared.SpecularLighting.{SpecularLighting}
use Rattle.tree.specs.declared.LightSource.{LightSource}
use Rattle.std.specs.Prelude.{Bool, ◌&&◌, cond, List, Float, None, Option, Some}
use Rattle.std.specs.Float.{binary32}
use Rattle.std.specs.Float.Ieee.{of_bits, le}
use Rattle.num.specs.Constants.{one}
use Rattle.names.specs.Ids.{aid_surface_scale, aid_specular_constant, aid_specular_exponent}
use Rattle.svgtree.specs.Values.{Node}
use Rattle.fe.specs.Attributes.{number_or}
use Rattle.fe_light.specs.LightSource.{light_source_of}
use Rattle.fe_light.specs.LightingColor.{lighting_color_of}

-- "specular lighting's exponent is 1 to 128"
abbrev pub exponent_in_range : Float → Bool
exponent_in_range x = le one x && le x (of_bits binary32 0x4300_0000)

-- feSpecularLighting with its light: surfaceScale, specularConstant and specularExponent are 1 where they are absent. The document: specularConstant is not
-- below 0; the crate: any number. The document: the exponent is 1 to 128, and another is an error (not certain). The crate: with another the transparent
-- black flood stands for the element, which is No here.
abbrev pub specular_with : Node → Option LightSource → Option SpecularLighting
specular_with n (Some l) =
    cond (exponent_in_range (number_or n aid_specular_exponent one))
    (Some
    (record {
      surface_scale = number_or n aid_surface_scale one;
      specular_constant = number_or n aid_specular_constant one;
      specular_exponent = number_or n aid_specular_exponent one;
      lighting_color = lighting_color_of n;
      light_source = l;
    }))
    None
specular_with n None = None

-- feSpecularLighting and its children; No, for which the flood stands, without a light source or with an exponent out of range
abbrev pub specular_lighting_of : Node → List Node → Option SpecularLighting
specular_lighting_of n children = specular_with n (light_source_of children)
