-- Invariant: the digits of v and then the bytes that are left are the first digit and all the bytes. Assumes nothing.
use mathlib.Core.Path.{◌≡◌, refl, ◌∙◌}
use Prim.Native.Nat.{◌+◌, ◌-◌}
use native.Mathlib.Omega.{arith}
use Rattle.results.proofs.Numbers.{digit_read, other_read, all_read, few_first, few_more, few_all}
use Rattle.results.proofs.number_after.Goals as goal

pub loop-i-init : goal.loop-i-init
loop-i-init c =
    let a = c.args in
    let p : a.from + 0 ≡ a.from = omega arith in
    let q : a.n - 0 ≡ a.n = omega arith in
    rw (p, q) (c.requires.2, few_first a.first a.n c.requires.3 c.requires.1, refl)

pub returns-in_err-v : goal.returns-in_err-v
returns-in_err-v c =
    let a = c.args in
    let l = c.loop-i in
    rw (c.from_residual.ensures, l.invariant.2) (other_read a.s.now (a.from + l.i) (a.n - l.i) l.v (omega arith) c.in_err-v.ensures)

pub loop-i-preserved : goal.loop-i-preserved
loop-i-preserved c =
    let a = c.args in
    let l = c.loop-i in
    let d = c.in_ok-v in
    let p : a.from + (l.i + 1) ≡ a.from + l.i + 1 = omega arith in
    let q : a.n - (l.i + 1) ≡ a.n - l.i - 1 = omega arith in
    rw (p, q) (
      omega arith,
      few_more l.v d.field-0 (a.n - l.i) (omega arith) (omega arith) d.ensures.0 l.invariant.1,
      l.invariant.2 ∙ digit_read a.s.now (a.from + l.i) (a.n - l.i) l.v d.field-0 (omega arith) l.invariant.0 d.ensures.0 d.ensures.1,
    )

pub returns : goal.returns
returns c =
    let a = c.args in
    let l = c.loop-i in
    rw l.invariant.2 (all_read a.s.now (a.from + l.i) (a.n - l.i) l.v (omega arith) (few_all l.v (a.n - l.i) l.invariant.1))
