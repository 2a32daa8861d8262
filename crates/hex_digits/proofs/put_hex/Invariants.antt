use Prim.Native.Nat.{◌*◌}
use lib.ListN.{take}
use Rattle.hex_digits.specs.Hex.{hex_of}
use Rattle.bits.specs.Writer.{Writes}
use Rattle.hex_digits.proofs.put_hex.Given as goal

-- the bytes so far are written as digits
abbrev pub invariant-loop-b : goal.invariant-loop-b
invariant-loop-b l = Writes l.initial.out (2 * l.b-index) (hex_of (take l.b-index l.s)) l.out
