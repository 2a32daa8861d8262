-- What holds of every kernel that the definitions give: document 01, "Ranges", and that no number is NaN. Definitions only.
use Rattle.std.specs.Prelude.{◌*◌, ◌<◌, ◌≡◌, false, length}
use Rattle.num.specs.Numbers.{IsFinite, IsNumber, Each}
use Rattle.num.specs.Sign.{near_zero}
use Rattle.tree.specs.Kinds.{ConvolveMatrixData, ConvolveMatrixFields}

-- "a kernel holds columns × rows numbers with its target inside"; each number is finite
pub record KernelRange (m : ConvolveMatrixData) : Type 0 where
  pub count : length m.numbers ≡ m.columns * m.rows
  pub target_x : m.target_x < m.columns
  pub target_y : m.target_y < m.rows
  pub numbers : Each IsFinite m.numbers

-- "a divisor isn't near zero"; as the kernel's sum it may be an infinity, but no NaN
pub record ConvolveMatrixRange (v : ConvolveMatrixFields) : Type 0 where
  pub matrix : KernelRange v.matrix
  pub divisor : near_zero v.divisor ≡ false
  pub divisor_number : IsNumber v.divisor
  pub bias : IsFinite v.bias
