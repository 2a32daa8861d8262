-- What the converter writes for an input: `parse_in` and `resolve_input`. Definitions only.
use Rattle.std.specs.Prelude.{cond, List, [], ◌∷◌, None, Option, Some}
use Rattle.bits.specs.Bytes.{same}
use Rattle.bits.specs.Words.{word}
use Rattle.tree.specs.Input.{Name, Input, SourceGraphic, SourceAlpha, Reference}
use Rattle.naming.specs.Names.{member}

-- The reserved words

abbrev pub w_source_graphic : Name
w_source_graphic = word "SourceGraphic"

abbrev pub w_source_alpha : Name
w_source_alpha = word "SourceAlpha"

abbrev pub w_background_image : Name
w_background_image = word "BackgroundImage"

abbrev pub w_background_alpha : Name
w_background_alpha = word "BackgroundAlpha"

abbrev pub w_fill_paint : Name
w_fill_paint = word "FillPaint"

abbrev pub w_stroke_paint : Name
w_stroke_paint = word "StrokePaint"

-- the four inputs that are not supported. The document: each is an image of its own. The crate: each is taken for SourceGraphic
abbrev pub unsupported_inputs : List Name
unsupported_inputs = w_background_image ∷ w_background_alpha ∷ w_fill_paint ∷ w_stroke_paint ∷ []

-- `parse_in`: a reserved word is never a name. The document: a name is an identifier. The crate: every other text is one, the empty one too, and it is
-- compared byte for byte
unfoldable pub parse_in : Name → Input
parse_in t =
    cond (same t w_source_graphic) SourceGraphic
    (cond (same t w_source_alpha) SourceAlpha
    (cond (member t unsupported_inputs) SourceGraphic
    (Reference t)))

abbrev pub last_of : Name → List Name → Name
last_of n [] = n
last_of n (m ∷ ms) = last_of m ms

-- the previous result, or SourceGraphic when there is none
abbrev pub previous : List Name → Input
previous [] = SourceGraphic
previous (n ∷ ns) = Reference (last_of n ns)

-- a reference to a known name stays; one to an unknown name becomes the previous result
abbrev pub settled : List Name → Input → Input
settled ns SourceGraphic = SourceGraphic
settled ns SourceAlpha = SourceAlpha
settled ns (Reference t) = cond (member t ns) (Reference t) (previous ns)

-- `resolve_input`, with the names of the results so far, at an `in` attribute or its absence
unfoldable pub resolve : List Name → Option Name → Input
resolve ns None = previous ns
resolve ns (Some t) = settled ns (parse_in t)
