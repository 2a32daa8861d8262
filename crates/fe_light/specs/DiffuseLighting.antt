-- feDiffuseLighting of the W3C document Filter Effects Module Level 1. The crate does not read the document's `kernelUnitLength`; in a sheet its id is not
-- in the layout. Definitions only.
use Rattle.tree.specs.declared.DiffuseLighting.{DiffuseLighting}
use Rattle.tree.specs.declared.LightSource.{LightSource}
use Rattle.std.specs.Prelude.{List, None, Option, Some}
use Rattle.num.specs.Constants.{one}
use Rattle.names.specs.Ids.{aid_surface_scale, aid_diffuse_constant}
use Rattle.svgtree.specs.Values.{Node}
use Rattle.fe.specs.Attributes.{number_or}
use Rattle.fe_light.specs.LightSource.{light_source_of}
use Rattle.fe_light.specs.LightingColor.{lighting_color_of}

-- feDiffuseLighting with its light: surfaceScale and diffuseConstant are 1 where they are absent. The document: diffuseConstant is not below 0;
-- the crate: any number.
abbrev pub diffuse_with : Node → Option LightSource → Option DiffuseLighting
diffuse_with n (Some l) =
    Some
    (record {
      surface_scale = number_or n aid_surface_scale one;
      diffuse_constant = number_or n aid_diffuse_constant one;
      lighting_color = lighting_color_of n;
      light_source = l;
    })
diffuse_with n None = None

-- feDiffuseLighting and its children; No, for which the flood stands, without a light source
abbrev pub diffuse_lighting_of : Node → List Node → Option DiffuseLighting
diffuse_lighting_of n children = diffuse_with n (light_source_of children)
