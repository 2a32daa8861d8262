-- The loop's invariant: the number's digits are those of what is left, and then what is written. The number left falls. Assumes nothing.
use mathlib.Core.Path.{◌≡◌, ap, ◌∙◌}
use Prim.Native.Nat.{ℕ, ◌+◌, ◌-◌}
use native.Mathlib.Omega.{arith}
use lib.ListN.{length, set, take, drop, length-set, length-drop}
use lib.Seq.{take_all}
use Rattle.results.proofs.Spelling.{more_room, digit_more, digit_last}
use Rattle.results.proofs.digits_of.Goals as goal

pub loop-n-preserved : goal.loop-n-preserved
loop-n-preserved c =
    let l = c.loop-n in
    let m = more_room l.n l.e c.loop-n-test.true l.invariant.2 in (
      omega arith,
      omega arith,
      m.1,
      simp length-set l.invariant.3,
      digit_more c.args.k l.n l.e l.buf l.invariant.4 (omega arith) (omega arith) c.loop-n-test.true,
    )

pub returns : goal.returns
returns c =
    let l = c.loop-n in
    let e = l.e - 1 in
    let buf = set l.buf e (48 + l.n) in
    let long : length (drop e buf) ≡ 10 - e = length-drop e buf ∙ ap (λ (n : ℕ). n - e) (length-set l.buf e (48 + l.n) ∙ l.invariant.3) in
    let all : take (10 - e) (drop e buf) ≡ drop e buf = take_all (10 - e) (drop e buf) (omega arith) in
    rw all (digit_last c.args.k l.n l.e l.buf l.invariant.4 (omega arith) (omega arith) c.loop-n-test.false, omega arith, omega arith)
