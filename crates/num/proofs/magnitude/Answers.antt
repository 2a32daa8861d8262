-- `num::magnitude` meets its contract: by the exponent all digits are dropped, or 926 - x of them (a subnormal f32), or 29 (a normal one, by one sum that covers the carry), or the number is too large or an infinity; Narrowing.antt has a law for each. Assumes nothing.
use native.Mathlib.Omega.{arith}
use Prim.Native.Nat.{◌+◌, ◌-◌, ◌*◌, ◌%◌, ◌^◌}
use mathlib.Core.Path.{◌≡◌, sym, subst}
use lib.Dec.{lit≤}
use lib.Ieee.Nearest.{closest}
use Rattle.num.proofs.Narrowing.{Done, tiny, low, low_le, normal, normal_le, large}
use Rattle.num.proofs.magnitude.Goals as goal

pub returns-then-x-lt873 : goal.returns-then-x-lt873
returns-then-x-lt873 c = let at = c.args in record { upper_bound = lit≤ tt; bits_narrowed = tiny at.t c.requires.1 at.x c.if-x-lt873.true }

pub returns-then-x-lt897 : goal.returns-then-x-lt897
returns-then-x-lt897 c =
    let at = c.args in
    let e = c.nearest_shift.ensures in
    let d : Done at.x at.t c.nearest_shift.result = subst (Done at.x at.t) (sym e) (low_le at.t c.requires.1 at.x c.if-x-lt897.true, low at.t c.requires.1 at.x (omega arith) c.if-x-lt897.true) in
    record { upper_bound = d.0; bits_narrowed = d.1 }

pub returns-then-x-lt1151 : goal.returns-then-x-lt1151
returns-then-x-lt1151 c =
    let at = c.args in
    let e : c.nearest_shift-then-x-lt1151.result ≡ closest (4503599627370496 + at.t) (2 ^ 29) = c.nearest_shift-then-x-lt1151.ensures in
    let w : (at.x - 897) * 8388608 % 18446744073709551616 + c.nearest_shift-then-x-lt1151.result ≡ (at.x - 897) * 8388608 + closest (4503599627370496 + at.t) (2 ^ 29) = omega (arith, c.if-x-lt1151.true) in
    let d : Done at.x at.t ((at.x - 897) * 8388608 % 18446744073709551616 + c.nearest_shift-then-x-lt1151.result) = subst (Done at.x at.t) (sym w) (normal_le at.t c.requires.1 at.x c.if-x-lt897.false c.if-x-lt1151.true, normal at.t c.requires.1 at.x c.if-x-lt897.false c.if-x-lt1151.true) in
    record { upper_bound = d.0; bits_narrowed = d.1 }

pub returns : goal.returns
returns c =
    let at = c.args in
    record { upper_bound = lit≤ tt; bits_narrowed = large at.t c.requires.1 at.x c.if-x-lt1151.false c.requires.0 }
