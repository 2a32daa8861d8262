-- `num::take_single` meets its contract: a pattern is a finite number's where it is below the infinity's, the sign aside. Assumes nothing.
use Rattle.num.proofs.Finite.{bits_num, number_yes, number_no}
use Rattle.num.proofs.take_single.Goals as goal

pub float_from_bits-result : goal.float_from_bits-result
float_from_bits-result c = bits_num c.args.bits c.if-bits-lt2139095040.true

pub returns-then-bits-lt2139095040 : goal.returns-then-bits-lt2139095040
returns-then-bits-lt2139095040 c = number_yes c.args.bits c.if-bits-lt2139095040.true

pub returns : goal.returns
returns c = number_no c.args.bits c.if-bits-lt2139095040.false
