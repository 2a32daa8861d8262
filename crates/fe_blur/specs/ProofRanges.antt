-- What the proofs carry of an offset: it may be infinite, and is no NaN. Definitions only.
use Rattle.num.specs.Numbers.{IsNumber}
use Rattle.tree.specs.declared.Offset.{Offset}

pub record OffsetRange (v : Offset) : Type 0 where
  pub dx : IsNumber v.dx
  pub dy : IsNumber v.dy
