-- N bytes that all lie in the list are a part of it. Assumes nothing.
use Rattle.std.proofs.Common.{◌≡◌, ◌+◌, ◌-◌, ◌≤◌, sym, arith, length}
use Rattle.bits.proofs.Runs.{bytes_from_part}
use Rattle.bits.proofs.bytes_at.Goals as goal

pub returns-then-at-s : goal.returns-then-at-s
returns-then-at-s g c =
    let a = c.args in
    let n : a.at + g.row.N - a.at ≡ g.row.N = omega arith in
    let within : a.at + g.row.N ≤ length a.s.now = omega (arith, c.if-s.true, c.if-at-s.true) in
    rw (c.copy_from_slice.ensures.after, n) (sym (bytes_from_part a.s.now a.at g.row.N within))
