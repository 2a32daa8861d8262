-- The element feBlend (Filter Effects Module Level 1): its attribute `mode`. The crate does not read the document's `no-composite`. Definitions only.
use Rattle.std.specs.Prelude.{List, [], ◌∷◌}
use Rattle.names.specs.Ids.{aid_mode}
use Rattle.svgtree.specs.Values.{Node}
use Rattle.svgtree.specs.Readers.{text_of}
use Rattle.tree.specs.declared.BlendMode.{BlendMode}
use Rattle.tree.specs.declared.BlendMode.TheVariants.{Normal, Multiply, Screen, Overlay, Darken, Lighten, ColorDodge, ColorBurn, HardLight, SoftLight, Difference, Exclusion, Hue, Saturation, Color, Luminosity}
use Rattle.fe.specs.Keywords.{Keyword, ◌means◌, keyword}

-- the blend modes but `normal`
abbrev pub modes : List (Keyword BlendMode)
modes =
    "multiply" means Multiply
    ∷ "screen" means Screen
    ∷ "overlay" means Overlay
    ∷ "darken" means Darken
    ∷ "lighten" means Lighten
    ∷ "color-dodge" means ColorDodge
    ∷ "color-burn" means ColorBurn
    ∷ "hard-light" means HardLight
    ∷ "soft-light" means SoftLight
    ∷ "difference" means Difference
    ∷ "exclusion" means Exclusion
    ∷ "hue" means Hue
    ∷ "saturation" means Saturation
    ∷ "color" means Color
    ∷ "luminosity" means Luminosity
    ∷ []

-- `normal` where `mode` is absent, and for every other text. `plus-lighter` is such a text: it is no mode of feBlend in the document either
abbrev pub mode_of : Node → BlendMode
mode_of n = keyword modes Normal (text_of n aid_mode)
