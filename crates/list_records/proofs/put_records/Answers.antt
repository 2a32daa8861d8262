-- Invariant: the first j records are written; the next has room, since all of them have. Assumes nothing.
use native.Mathlib.Omega.{arith}
use mathlib.Core.Path.{◌∙◌, ap}
use Prim.Native.Nat.{ℕ, ◌<◌}
use lib.ListN.{length, get_or}
use Rattle.std.proofs.lemmas.List.{get_or_default}
use Rattle.bits.proofs.Writing.{writes_none}
use Rattle.list_primitives.proofs.Growing.{room, one_more}
use Rattle.results.specs.Means.{entry_is}
use Rattle.list_records.specs.Tables.{records_up_to}
use Rattle.list_records.proofs.Laws.{record_next, records_step, records_none, same_record}
use Rattle.list_records.proofs.put_records.Goals as goal

pub loop-j-init : goal.loop-j-init
loop-j-init c =
    let a = c.args in
    let n = a.names.now in
    rw (records_none a.frame n.bytes.now a.nodes.now n.entries.now) (writes_none _)

pub put_primitive-requires : goal.put_primitive-requires
put_primitive-requires c =
    let a = c.args in
    let f = a.frame in
    let s = a.names.now.bytes.now in
    let nodes = a.nodes.now in
    let names = a.names.now.entries.now in
    let l = c.loop-j in
    let under : l.j < length names = omega (arith, c.requires.each.0) in
    let named = c.name.ensures.exact s ∙ ap (λ (e : ℕ). entry_is s e) (get_or_default names l.j c.index-names-j.result 0 under) in
    let e = same_record f s nodes names c.child_of-child.result c.name.result (get_or nodes l.j 0) l.j c.child_of-child.ensures named in
    let h = room (records_up_to f s nodes names) (record_next f s nodes names) (records_step f s nodes names) l.j (length nodes) c.loop-j-test.true in
    rw e (omega (arith, h, l.invariant.next, l.invariant.long, c.requires.room))

pub loop-j-preserved : goal.loop-j-preserved
loop-j-preserved c =
    let a = c.args in
    let f = a.frame in
    let s = a.names.now.bytes.now in
    let nodes = a.nodes.now in
    let names = a.names.now.entries.now in
    let l = c.loop-j in
    let under : l.j < length names = omega (arith, c.requires.each.0) in
    let named = c.name.ensures.exact s ∙ ap (λ (e : ℕ). entry_is s e) (get_or_default names l.j c.index-names-j.result 0 under) in
    let e = same_record f s nodes names c.child_of-child.result c.name.result (get_or nodes l.j 0) l.j c.child_of-child.ensures named in
    one_more (records_up_to f s nodes names) (record_next f s nodes names) (records_step f s nodes names) l.j l.invariant (rw e at c.put_primitive.ensures)
