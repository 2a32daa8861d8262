-- Invariant: the pairs of the first records are written, and `start` is where the next record begins. Each turn adds one pair.
use native.Mathlib.Omega.{arith}
use lib.ListN.{length, take, get_or}
use lib.Seq.{take_all}
use Rattle.bits.proofs.Writing.{◌then◌, ◌counted◌, writes_none}
use Rattle.tree.proofs.Pairs.{pairs_none, total_none, taken_more, total_more, total_room, pairs_snoc}
use Rattle.list_values.proofs.put_pairs.Goals as goal

pub loop-size-init : goal.loop-size-init
loop-size-init c =
    let a = c.args in
    record { next = omega (arith, total_none a.sizes.now); written = rw (pairs_none a.base a.sizes.now) (writes_none _) }

pub overflow_add-start : goal.overflow_add-start
overflow_add-start c =
    let l = c.loop-size in
    let xs = c.args.sizes.now in
    let room = rw (take_all (length xs) xs (omega arith)) at (total_room xs l.size-index c.loop-size-test.true (length xs) c.loop-size-test.true) in
    record { fits = omega (arith, room, l.invariant.next, c.requires.1) }

pub loop-size-preserved : goal.loop-size-preserved
loop-size-preserved c =
    let l = c.loop-size in
    let xs = c.args.sizes.now in
    let size = get_or xs l.size-index 0 in
    let h = c.loop-size-test.true in
    let pair = rw l.invariant.next at (c.put.ensures then c.put-in-loop-size.ensures) in
    record {
      next = omega (arith, total_more xs l.size-index h, l.invariant.next);
      written = rw (taken_more xs l.size-index h, pairs_snoc (take l.size-index xs) c.args.base size) (l.invariant.written then pair counted omega arith);
    }
