-- A text within the bytes is a part of them. Assumes nothing.
use native.Mathlib.Omega.{arith}
use Prim.Native.Nat.{◌+◌, ◌-◌}
use mathlib.Core.Path.{◌≡◌}
use Rattle.bits.proofs.Runs.{bytes_from_part}
use Rattle.bits.proofs.same_text.Goals as goal

pub returns-then-end-s : goal.returns-then-end-s
returns-then-end-s c =
    let b = c.args.b in
    let n : b.at + c.from.result - b.at ≡ b.len = omega (arith, c.from.ensures) in
    rw (n, ← bytes_from_part c.args.s.now b.at b.len (omega arith)) at c.text_is.ensures
