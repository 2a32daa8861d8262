-- `geom::is_side` meets its contract: where a < b, the difference is below the largest f32 only if both edges are finite. Assumes nothing.
use lib.Ieee.{of_bits}
use Rattle.geom.proofs.Sides.{side_below}
use Rattle.geom.proofs.is_side.Goals as goal

pub returns-then-a-b : goal.returns-then-a-b
unfolding of_bits
returns-then-a-b c = rw (c.from.ensures, c.from-then-a-b.ensures) (side_below c.args.a c.args.b c.if-a-b.true)
