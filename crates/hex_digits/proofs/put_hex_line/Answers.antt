-- The digits, and one byte behind them. Assumes nothing.
use Rattle.bits.proofs.Writing.{◌then◌}
use Rattle.hex_digits.proofs.put_hex_line.Goals as goal

pub returns : goal.returns
returns c = c.put_hex.ensures then c.put.ensures
