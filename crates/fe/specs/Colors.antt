-- Colours: a sheet's have an alpha, and a list's have none. Definitions only.
use Rattle.svgtree.specs.declared.Color.{Color as SheetColor}
use Rattle.tree.specs.declared.Color.{Color}

abbrev pub black : Color
black = record { red = 0; green = 0; blue = 0 }

abbrev pub white : Color
white = record { red = 255; green = 255; blue = 255 }

-- a colour's red, green and blue
abbrev pub without_alpha : SheetColor → Color
without_alpha c = record { red = c.red; green = c.green; blue = c.blue }
