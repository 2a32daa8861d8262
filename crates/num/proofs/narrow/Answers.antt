-- `num::narrow` meets its contract: a NaN has the one pattern that `to_bits` writes; any other pattern is the sign and what `magnitude` ensures of the two fields. Assumes nothing.
use native.Mathlib.Omega.{arith}
use Prim.Native.Nat.{◌+◌, ◌*◌, ◌/◌, ◌%◌}
use mathlib.Core.Path.{◌≡◌, ◌∙◌}
use Rattle.num.proofs.Narrowing.{narrowed_nan, whole}
use Rattle.num.proofs.narrow.Goals as goal

pub returns-then-bits-gt9218868437227405312 : goal.returns-then-bits-gt9218868437227405312
returns-then-bits-gt9218868437227405312 c = narrowed_nan c.args.bits c.if-bits-gt9218868437227405312.true

pub returns : goal.returns
returns c =
    let b = c.args.bits in
    let r = c.magnitude-m.result in
    let w : b / 9223372036854775808 * 2147483648 % 18446744073709551616 + r ≡ b / 9223372036854775808 * 2147483648 + r = omega arith in
    w ∙ whole b r c.ranges.bits.fits c.magnitude-m.ensures.bits_narrowed
