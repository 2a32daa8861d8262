-- `geom::is_view_box_length` meets its contract: it is a length, and lies below the largest f32. Assumes nothing.
use mathlib.Core.Path.{sym, ap, ◌∙◌}
use mathlib.Core.Bool.{Bool, ◌&&◌}
use lib.Ieee.{of_bits, lt}
use Rattle.geom.specs.Geometry.{largest, valid_length, view_box_length}
use Rattle.geom.proofs.is_view_box_length.Goals as goal

pub returns-then-is_valid_length : goal.returns-then-is_valid_length
unfolding of_bits valid_length view_box_length
returns-then-is_valid_length c = ap (λ (b : Bool). b && lt c.args.x largest) (sym c.if-is_valid_length.true ∙ c.is_valid_length.ensures)
