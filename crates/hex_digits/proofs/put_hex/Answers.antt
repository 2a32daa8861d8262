-- Each turn adds a byte to those that are written, and its two digits to what is written. Assumes nothing.
use native.Mathlib.Omega.{arith}
use Rattle.hex_digits.specs.Hex.{hex_of}
use Rattle.hex_digits.proofs.Laws.{hex_more}
use Rattle.bits.proofs.Writing.{◌then◌, ◌counted◌, writes_none}
use Rattle.hex_digits.proofs.put_hex.Goals as goal

pub loop-b-init : goal.loop-b-init
unfolding hex_of
loop-b-init c = writes_none _

pub loop-b-preserved : goal.loop-b-preserved
loop-b-preserved c =
    rw (hex_more c.args.s.now c.loop-b.b-index (omega arith), ← c.digit.ensures, ← c.digit-in-loop-b.ensures)
    (c.loop-b.invariant then c.put_bytes.ensures counted omega arith)
