-- The property color-interpolation-filters (Filter Effects Module Level 1). Definitions only.
use Rattle.std.specs.Prelude.{[], ◌∷◌}
use Rattle.names.specs.Ids.{aid_color_interpolation_filters}
use Rattle.svgtree.specs.Values.{Node}
use Rattle.svgtree.specs.Readers.{text_of}
use Rattle.tree.specs.declared.ColorInterpolation.{ColorInterpolation}
use Rattle.tree.specs.declared.ColorInterpolation.TheVariants.{SRGB, LinearRGB}
use Rattle.fe.specs.Keywords.{◌means◌, keyword}

-- `linearRGB` where the property is absent, and for every text but `sRGB`. The document: with `auto` the renderer chooses. The crate: linearRGB
abbrev pub color_interpolation_of : Node → ColorInterpolation
color_interpolation_of n = keyword ("sRGB" means SRGB ∷ []) LinearRGB (text_of n aid_color_interpolation_filters)
