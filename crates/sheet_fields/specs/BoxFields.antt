-- Where the numbers of the box stand, one by one, as the code reads them: the definitions of a sheet read four f32 in a row. Definitions only.
use Rattle.std.specs.Prelude.{ℕ}

abbrev pub header_box_y : ℕ
header_box_y = 8

abbrev pub header_box_width : ℕ
header_box_width = 12

abbrev pub header_box_height : ℕ
header_box_height = 16
