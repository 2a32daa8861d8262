-- A first digit other than 0 is read on; 0 is a number by itself, and begins no other. Assumes nothing.
use mathlib.Core.Path.{◌≡◌}
use native.Mathlib.Omega.{arith}
use lib.ListN.{get_or}
use Rattle.results.proofs.Numbers.{first_digit, first_other, zero_read}
use Rattle.results.proofs.number_in.Goals as goal

pub returns-in_err-first : goal.returns-in_err-first
returns-in_err-first c =
    let a = c.args in
    rw c.from_residual.ensures (first_other a.s.now a.from a.n (omega arith) c.in_err-first.ensures)

pub returns-then-first-gt0 : goal.returns-then-first-gt0
returns-then-first-gt0 c =
    let a = c.args in
    let d = c.in_ok-first in
    rw (first_digit a.s.now a.from a.n d.first (omega arith) d.ensures.0 d.ensures.1) c.number_after.ensures

pub returns : goal.returns
returns c =
    let a = c.args in
    let e : get_or a.s.now a.from 0 ≡ 48 = omega (arith, c.in_ok-first.ensures) in
    rw c.then_some.ensures (zero_read a.s.now a.from a.n (omega arith) e)
