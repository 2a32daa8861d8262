-- lighting-color of the W3C document Filter Effects Module Level 1. Definitions only.
use Rattle.svgtree.specs.declared.Color as sheet
use Rattle.std.specs.Prelude.{cond, None, Option, Some}
use Rattle.bits.specs.Words.{word}
use Rattle.names.specs.Ids.{aid_lighting_color, aid_color}
use Rattle.svgtree.specs.Values.{Node}
use Rattle.svgtree.specs.Readers.{text_of, color_of}
use Rattle.tree.specs.declared.Color.{Color}
use Rattle.fe.specs.Attributes.{is_word}
use Rattle.fe.specs.Colors.{black, white, without_alpha}

-- a colour without its alpha, or a default where it is absent
abbrev pub opaque_or : Option sheet.Color → Color → Color
opaque_or (Some c) d = without_alpha c
opaque_or None d = d

-- lighting-color: white where it is absent; `currentColor` is the property `color`, and black where that is absent. The document: the initial
-- value of `color` is for the user agent to choose. Alpha has no effect.
abbrev pub lighting_color_of : Node → Color
lighting_color_of n =
    cond (is_word (text_of n aid_lighting_color) (word "currentColor"))
    (opaque_or (color_of n aid_color) black)
    (opaque_or (color_of n aid_lighting_color) white)
