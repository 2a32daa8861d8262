-- Invariant: reading on from what is due gives what reading the whole run from the start gives. Assumes nothing.
use Rattle.std.specs.Prelude.{Some}
use mathlib.Core.Path.{◌≡◌, ◌∙◌}
use native.Mathlib.Omega.{arith}
use Prim.Native.Nat.{◌+◌, ◌-◌}
use Rattle.bits.specs.Utf8.{utf8}
use Rattle.bits.specs.Due.{ranges_due}
use Rattle.bits.proofs.WellFormed.{run_end, run_step, run_broken}
use Rattle.bits.proofs.is_utf8.Goals as goal

pub returns-in-None : goal.returns-in-None
unfolding utf8
returns-in-None c =
    let s = c.args.s.now in
    let l = c.loop-j in
    let step = run_step s (Some (ranges_due l.now)) (c.args.from + l.j) (c.args.n - l.j) (omega arith) in
    let broken = rw (c.in-None.is, c.byte.ensures, c.from.ensures) at c.next_byte.ensures in
    rw (l.invariant, step, ← broken, run_broken)

pub loop-j-preserved : goal.loop-j-preserved
loop-j-preserved c =
    let a = c.args in
    let l = c.loop-j in
    let step = run_step a.s.now (Some (ranges_due l.now)) (a.from + l.j) (a.n - l.j) (omega arith) in
    let next = rw (c.in-Some.is, c.byte.ensures, c.from.ensures) at c.next_byte.ensures in
    let place : a.from + l.j + 1 ≡ a.from + (l.j + 1) = omega arith in
    let left : a.n - l.j - 1 ≡ a.n - (l.j + 1) = omega arith in
    l.invariant ∙ rw (step, ← next, place, left)

pub returns-in-Nothing : goal.returns-in-Nothing
unfolding utf8
returns-in-Nothing c =
    let l = c.loop-j in
    let last = run_end c.args.s.now (Some (ranges_due l.now)) (c.args.from + l.j) (c.args.n - l.j) (omega arith) in
    rw (l.invariant, last, c.in-Nothing.is)

pub returns-in_default : goal.returns-in_default
unfolding utf8
returns-in_default c =
    let l = c.loop-j in
    let last = run_end c.args.s.now (Some (ranges_due l.now)) (c.args.from + l.j) (c.args.n - l.j) (omega arith) in
    rw (l.invariant, last, c.in_default.is)
