-- A refusal leaves the output; else there is room, the kind is written at the start, and its numbers are in their ranges. Assumes nothing.
use borrow.Author.Rules.{rules}
use Rattle.std.specs.Prelude.{Err}
use native.Mathlib.Omega.{arith}
use mathlib.Core.Path.{◌≡◌, refl, ap}
use Prim.Native.Nat.{◌≤◌}
use lib.ListN.{length}
use Rattle.bits.proofs.Writing.{put_writes}
use Rattle.tree.specs.List.{kind_bytes}
use Rattle.functions.specs.Functions.{function_kind}
use Rattle.functions.specs.Records.{function_record}
use Rattle.functions.specs.Call.{ConvertedFunction}
use Rattle.functions.proofs.Ends.{check_refused, no_room, given_call}
use Rattle.functions.proofs.convert_function.Goals as goal

pub returns-in_err-function : goal.returns-in_err-function
returns-in_err-function c =
    let a = c.args in
    let e : c.from_residual.result ≡ Err c.in_err-function.field-0.0 = search rules in
    rw e (check_refused a.«record».now a.out.now _ _ c.in_err-function.ensures (refl, refl))

pub returns-then-out-size : goal.returns-then-out-size
returns-then-out-size c =
    let a = c.args in
    let function = c.in_ok-function.ensures in
    let size = rw function.0 at c.kind_size-size.ensures in
    no_room a.«record».now a.out.now _ function.1 (rw size at c.if-out-size.true) (refl, refl)

pub returns : goal.returns
returns c =
    let a = c.args in
    let s = a.«record».now in
    let function = c.in_ok-function.ensures in
    let size = rw function.0 at c.kind_size-size.ensures in
    let room : length (kind_bytes (function_kind (function_record s))) ≤ length a.out.now = omega (arith, size, c.if-out-size.false) in
    let p = put_writes c.new.result c.put_kind.new.out _ _ (rw function.0 at c.put_kind.ensures) (omega (arith, room, c.new.ensures.start, ap length c.new.ensures.bytes)) in
    let q = rw (c.new.ensures.start, c.new.ensures.bytes) at p in
    let whole : ConvertedFunction s a.out.now (record { number = 0; length = c.kind_size-size.result }) c.put_kind.new.out.out.now =
    given_call s a.out.now _ _ _ (λ i. (c.type_inv.«record» i).fits) room q function.1 (refl, omega (arith, size, q.next)) in
    search rules
