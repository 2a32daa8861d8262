-- A text that is too short, too long or begins otherwise is no made name; another is the made name of the number behind `result`. Assumes nothing.
use mathlib.Core.Path.{◌≡◌, sym, ◌∙◌}
use mathlib.Core.Bool.{true, false}
use Prim.Native.Nat.{◌+◌, ◌-◌}
use native.Mathlib.Omega.{arith}
use Rattle.std.specs.Prelude.{Some, None}
use Rattle.bits.specs.Bytes.{bytes_from, same}
use Rattle.naming.specs.Names.{w_result}
use Rattle.results.specs.Means.{NumberIn}
use Rattle.results.proofs.Numbers.{key_outside, key_within, key_unlike, key_none, key_fits}
use Rattle.results.proofs.made_in.Goals as goal

pub returns-then-not-contains : goal.returns-then-not-contains
returns-then-not-contains c =
    let a = c.args in
    key_outside a.s.now a.t.at a.t.len (sym (rw (c.new.ensures.start, c.new.ensures.end, c.new.ensures.exhausted) at c.contains.ensures.value) ∙ c.if-not-contains.true)

pub returns-then-not-run_is : goal.returns-then-not-run_is
returns-then-not-run_is c =
    let a = c.args in
    let long = key_within a.s.now a.t.at a.t.len (sym (rw (c.new.ensures.start, c.new.ensures.end, c.new.ensures.exhausted) at c.contains.ensures.value) ∙ c.if-not-contains.false) in
    let unlike : same (bytes_from a.s.now a.t.at 6) w_result ≡ false = sym c.run_is.ensures ∙ c.if-not-run_is.true in
    key_unlike a.s.now a.t.at a.t.len (omega arith) unlike

pub returns-in_err-number_in : goal.returns-in_err-number_in
returns-in_err-number_in c =
    let a = c.args in
    let long = key_within a.s.now a.t.at a.t.len (sym (rw (c.new.ensures.start, c.new.ensures.end, c.new.ensures.exhausted) at c.contains.ensures.value) ∙ c.if-not-contains.false) in
    let like : same (bytes_from a.s.now a.t.at 6) w_result ≡ true = sym c.run_is.ensures ∙ c.if-not-run_is.false in
    let number : NumberIn (bytes_from a.s.now (a.t.at + 6) (a.t.len - 6)) None = c.in_err-number_in.ensures in
    rw c.from_residual.ensures (key_none a.s.now a.t.at a.t.len (omega arith) like number)

pub returns : goal.returns
returns c =
    let a = c.args in
    let n = c.in_ok-number_in.field-0 in
    let long = key_within a.s.now a.t.at a.t.len (sym (rw (c.new.ensures.start, c.new.ensures.end, c.new.ensures.exhausted) at c.contains.ensures.value) ∙ c.if-not-contains.false) in
    let like : same (bytes_from a.s.now a.t.at 6) w_result ≡ true = sym c.run_is.ensures ∙ c.if-not-run_is.false in
    let number : NumberIn (bytes_from a.s.now (a.t.at + 6) (a.t.len - 6)) (Some n) = c.in_ok-number_in.ensures in
    rw c.ok.ensures.value (key_fits a.s.now a.t.at a.t.len (omega arith) like n number c.try_from.result c.try_from.ensures)
