-- A run within the bytes is a part of them; any other is what is left of them, and zeros. Assumes nothing.
use native.Mathlib.Omega.{arith}
use mathlib.Core.Path.{◌≡◌}
use Prim.Native.Nat.{◌+◌, ◌-◌, ◌≤◌}
use lib.ListN.{length, length-drop}
use Rattle.std.proofs.lemmas.List.{drop-replicate}
use Rattle.bits.proofs.Runs.{bytes_from_part, bytes_from_rest, length-bytes_from}
use Rattle.bits.proofs.Writing.{◌then◌, ◌counted◌}
use Rattle.bits.proofs.writer.Writer.copy.Goals as goal

pub returns-then-end-s : goal.returns-then-end-s
returns-then-end-s c =
    let a = c.args in
    let n : a.from + c.from.result - a.from ≡ a.n = omega (arith, c.from.ensures) in
    let run = bytes_from_part a.s.now a.from a.n (omega arith) in
    rw (n, ← run, length-bytes_from) at c.put_run.ensures

pub returns : goal.returns
returns c =
    let a = c.args in
    let left = c.left_from-left.result.now in
    let fits : length left ≤ a.n = simp (c.left_from-left.ensures, length-drop) (omega arith) in
    let run = bytes_from_rest a.s.now a.from a.n left c.left_from-left.ensures fits in
    rw (← run, drop-replicate, ← c.from-2.ensures) (c.put_run-2.ensures then c.put_zeros.ensures counted omega arith)
