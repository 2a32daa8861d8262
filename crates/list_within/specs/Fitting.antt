-- What the layout of lists asks of numbers and texts that a kind holds: texts have at most 255 bytes and are UTF-8, numbers are what an f32 can be,
-- and a list of them has at most 1,024. Definitions only.
use Rattle.std.specs.Prelude.{◌≤◌, ◌≡◌, true, List, [], ◌∷◌, length, Float, None, Option, Some}
use Rattle.tree.specs.Input.{Name}
use Rattle.list_read.specs.Records.{text_fits}
use Rattle.list_read_back.specs.Within.{Fits}
use Rattle.num.specs.Numbers.{Each}

abbrev pub NumbersFit : List Float → Type 0
NumbersFit xs = Each Fits xs × (length xs ≤ 1024)

-- a text that may be absent, and a list of such
abbrev pub OptionFit : Option Name → Type 0
OptionFit None = Unit {0}
OptionFit (Some t) = text_fits t ≡ true

abbrev pub OptionsFit : List (Option Name) → Type 0
OptionsFit [] = Unit {0}
OptionsFit (o ∷ os) = OptionFit o × OptionsFit os
