-- What the list of primitives of an accepted sheet is for the layout of lists. Definitions only.
use Rattle.std.specs.Prelude.{◌≤◌, List, length}
use Rattle.tree.specs.Kinds.{Primitive}
use Rattle.num.specs.Numbers.{Each}
use Rattle.ranges.specs.Numbers.{list_numbers}
use Rattle.list_read_back.specs.Within.{AllWithin, Fits}

-- at most 512 records, each within the layout, and every number is what an f32 can be
pub record ListWithin (ps : List Primitive) : Type 0 where
  pub few : length ps ≤ 512
  pub within : AllWithin ps
  pub fits : Each Fits (list_numbers ps)
