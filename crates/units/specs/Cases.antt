-- Cases of lengths, each found by computing.
use Rattle.std.specs.Prelude.{ℕ, ◌≡◌, refl, Float}
use Rattle.std.specs.Float.{binary32}
use Rattle.std.specs.Float.Ieee.{of_bits, round, mul, div}
use Rattle.geom.specs.declared.Size.{Size}
use Rattle.num.specs.Constants.{one}
use Rattle.names.specs.Ids.{aid_x, aid_y}
use Rattle.svgtree.specs.declared.LengthUnit.TheVariants.{In}
use Rattle.svgtree.specs.declared.Units.{Units}
use Rattle.svgtree.specs.declared.Units.TheVariants.{UserSpaceOnUse, ObjectBoundingBox}
use Rattle.units.specs.Lengths.{hundred, percent, convert_length}

-- 0.5, 50, 96 and 200 as f32
abbrev half : Float
half = of_bits binary32 0x3f00_0000

abbrev fifty : Float
fifty = of_bits binary32 0x4248_0000

abbrev ninety_six : Float
ninety_six = of_bits binary32 0x42c0_0000

abbrev two_hundred : Float
two_hundred = of_bits binary32 0x4348_0000

-- "1 in at 96 dpi is 96", whatever the attribute, units, view box and font size are
pub inch : (aid : ℕ) (units : Units) (view_box : Size) (font_size : Float)
    → convert_length (record { number = one; unit = In }) aid units (record { view_box = view_box; dpi = ninety_six }) font_size ≡ ninety_six
unfolding convert_length mul round of_bits
inch aid units view_box font_size = refl

-- 50% of a view box 100 wide and 200 high: 50 for x, 100 for y; and 0.5 in box units
abbrev view_box : Size
view_box = record { width = hundred; height = two_hundred }

pub percents : (dpi font_size : Float)
    → (convert_length (percent fifty) aid_x UserSpaceOnUse (record { view_box = view_box; dpi = dpi }) font_size ≡ fifty)
    × (convert_length (percent fifty) aid_y UserSpaceOnUse (record { view_box = view_box; dpi = dpi }) font_size ≡ hundred)
    × (convert_length (percent fifty) aid_y ObjectBoundingBox (record { view_box = view_box; dpi = dpi }) font_size ≡ half)
unfolding convert_length mul div round of_bits
percents dpi font_size = (refl, refl, refl)
