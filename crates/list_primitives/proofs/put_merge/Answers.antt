-- Invariant: the inputs before node i are written; the next has room, since all of them have. Assumes nothing.
use native.Mathlib.Omega.{arith}
use mathlib.Core.Path.{◌≡◌, sym, subst}
use Prim.Native.Nat.{ℕ, ◌+◌, ◌-◌}
use lib.ListN.{length}
use Rattle.bits.specs.Writer.{Writes}
use Rattle.bits.proofs.Writing.{writes_none}
use Rattle.list_primitives.proofs.Merges.{merge_up_to, merge_next, merge_step, merge_none, merge_room, input_of_node}
use Rattle.list_primitives.proofs.Growing.{one_more}
use Rattle.list_primitives.proofs.put_merge.Goals as goal

pub loop-i-init : goal.loop-i-init
loop-i-init c =
    let n = c.args.names.now in
    let first = c.args.merge.first in
    let e : first - first ≡ 0 = omega arith in
    rw (e, merge_none n.bytes.now n.entries.now first) (writes_none _)

pub put_one-requires : goal.put_one-requires
put_one-requires c =
    let n = c.args.names.now in
    let first = c.args.merge.first in
    let l = c.loop-i in
    let e : first + (l.i - first) ≡ l.i = omega arith in
    let h = merge_room n.bytes.now n.entries.now first (l.i - first) c.args.merge.count (omega arith) in
    rw c.in_of.ensures (omega (arith, rw e at h, l.invariant.next, l.invariant.long, c.requires.room))

pub loop-i-preserved : goal.loop-i-preserved
loop-i-preserved c =
    let n = c.args.names.now in
    let first = c.args.merge.first in
    let l = c.loop-i in
    let e : first + (l.i - first) ≡ l.i = omega arith in
    let q : l.i + 1 - first ≡ l.i - first + 1 = omega arith in
    let one = subst (λ (k : ℕ). Writes l.out (length (input_of_node n.bytes.now n.entries.now k)) (input_of_node n.bytes.now n.entries.now k) c.put_one.new.out) (sym e)
    (rw c.in_of.ensures at c.put_one.ensures) in
    rw q (one_more (merge_up_to n.bytes.now n.entries.now first) (merge_next n.bytes.now n.entries.now first) (merge_step n.bytes.now n.entries.now first) (l.i - first) l.invariant one)

pub returns : goal.returns
returns c =
    let l = c.loop-i in
    let q : l.i - c.args.merge.first ≡ c.args.merge.count = omega arith in
    rw q at l.invariant
