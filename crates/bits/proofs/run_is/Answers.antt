-- A run within the bytes is a part of them. Assumes nothing.
use native.Mathlib.Omega.{arith}
use Prim.Native.Nat.{◌+◌, ◌-◌}
use mathlib.Core.Path.{◌≡◌, ◌∙◌, sym}
use lib.ListN.{length}
use Rattle.bits.proofs.Runs.{bytes_from_part}
use Rattle.bits.proofs.Sameness.{same_run_length, same_pointwise}
use Rattle.bits.proofs.run_is.Goals as goal

pub returns-then-from-w : goal.returns-then-from-w
returns-then-from-w c =
    let a = c.args in
    sym (same_run_length a.s.now a.from a.n a.w.now (rw c.from.ensures at c.if-from-w.true))

pub returns-then-end-s : goal.returns-then-end-s
returns-then-end-s c =
    let a = c.args in
    let n : a.from + length a.w.now - a.from ≡ a.n = omega (arith, c.from.ensures, c.if-from-w.false) in
    let run = bytes_from_part a.s.now a.from a.n (omega arith) in
    rw (n, ← run, ← same_pointwise) at c.eq.ensures

pub returns : goal.returns
returns c = rw (sym c.from.ensures ∙ c.if-from-w.false) c.padded_is.ensures
