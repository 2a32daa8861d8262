-- feFlood, and the flood that stands for a bad light or kernel. Definitions only.
-- Filter Effects Module Level 1, feFlood: `flood-color` is black where absent, `flood-opacity` 1.
use Rattle.std.specs.Prelude.{ℕ, pos, Float, None, Option, Some}
use Rattle.std.specs.Float.{binary32}
use Rattle.std.specs.Float.Ieee.{of_bits, of_int, mul, div}
use Rattle.names.specs.Ids.{aid_flood_color, aid_flood_opacity}
use Rattle.num.specs.Constants.{plus_zero, one}
use Rattle.svgtree.specs.declared.Color.{Color}
use Rattle.svgtree.specs.Values.{Node}
use Rattle.svgtree.specs.Readers.{color_of}
use Rattle.tree.specs.declared.Flood.{Flood}
use Rattle.fe.specs.Attributes.{number_or}
use Rattle.fe.specs.Colors.{black, without_alpha}
use Rattle.fe_flood.specs.declared.SplitColor.{SplitColor}

abbrev pub opaque_black : Color
opaque_black = record { red = 0; green = 0; blue = 0; alpha = 255 }

abbrev pub or_black : Option Color → Color
or_black (Some c) = c
or_black None = opaque_black

abbrev pub flood_color : Node → Color
flood_color n = or_black (color_of n aid_flood_color)

-- 255, the alpha of an opaque colour
abbrev pub opaque_alpha : Float
opaque_alpha = of_bits binary32 0x437f_0000

-- "Opacity is alpha ÷ 255 in f32"
unfoldable pub alpha_opacity : ℕ → Float
alpha_opacity alpha = div binary32 (of_int binary32 (pos alpha)) opaque_alpha

-- a colour's red, green and blue, and its alpha as an opacity
abbrev pub split_alpha : Color → SplitColor
split_alpha c = record { color = without_alpha c; opacity = alpha_opacity c.alpha }

-- "then × flood-opacity, one rounding each"
abbrev pub flood_of : Node → Flood
flood_of n =
    let c = split_alpha (flood_color n) in
    record { color = c.color; opacity = mul binary32 c.opacity (number_or n aid_flood_opacity one) }

-- the transparent black flood
abbrev pub transparent_black : Flood
transparent_black = record { color = black; opacity = plus_zero }
