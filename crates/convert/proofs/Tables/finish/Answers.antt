-- The tables are the children's list: its length is that of its head and of the sizes' sum, and three writers in a row write its bytes. Assumes nothing.
use borrow.Author.Rules.{rules}
use native.Mathlib.Omega.{arith}
use mathlib.Core.Path.{refl, ap}
use Prim.Native.Nat.{◌≤◌, ◌+◌, ◌*◌}
use lib.ListN.{length}
use Rattle.answer.specs.Outcomes.{Answers}
use Rattle.convert.specs.Children.{list_of, fit}
use Rattle.list_records.specs.Tables.{children_is}
use Rattle.list_records.proofs.Laws.{records_first}
use Rattle.convert.proofs.Lists.{fits, sized, list_length, total_sizes, written, answers_none, answers_short, answers_list}
use Rattle.convert.proofs.Tables.finish.Goals as goal

pub returns-then-count-eq0 : goal.returns-then-count-eq0
returns-then-count-eq0 c =
    let a = c.args in
    answers_none a.frame a.sheet.bytes.now a.self.now.nodes a.self.now.results.count a.out.now _ c.if-count-eq0.true (refl, refl)

pub returns-then-out-length : goal.returns-then-out-length
returns-then-out-length c =
    let plan = c.requires.0 in
    let sizes = c.requires.1 in
    answers_short plan sizes c.args.out.now _ (search rules) (omega (arith, list_length plan sizes, c.if-out-length.true)) (refl, refl)

pub put_pairs-requires : goal.put_pairs-requires
put_pairs-requires c =
    let plan = c.requires.0 in
    let sizes = c.requires.1 in
    let few = plan.named.state.table.few in
    (omega (arith, sized plan sizes, ap length c.new-list.ensures.bytes), omega (arith, total_sizes plan sizes, sizes.small, few))

pub put_records-requires-clause-room : goal.put_records-requires-clause-room
put_records-requires-clause-room c =
    let a = c.args in
    let plan = c.requires.0 in
    let sizes = c.requires.1 in
    let first = records_first a.frame a.sheet.bytes.now a.self.now.nodes a.self.now.names a.self.now.results.count (fits plan sizes) in
    omega (arith, ap length first, sizes.total, ap length c.new-list.ensures.bytes)

pub returns : goal.returns
returns c =
    let a = c.args in
    let plan = c.requires.0 in
    let sizes = c.requires.1 in
    let first = records_first a.frame a.sheet.bytes.now a.self.now.nodes a.self.now.names a.self.now.results.count (fits plan sizes) in
    let list = children_is a.frame a.sheet.bytes.now a.self.now.nodes a.self.now.results.count in
    let long = list_length plan sizes in
    let room : length (list_of list) ≤ length a.out.now = omega (arith, long, c.if-out-length.false) in
    let bytes = written plan sizes c.new-list.ensures.start c.new-list.ensures.bytes room c.put.ensures (rw (sized plan sizes) at c.put_pairs.ensures) (rw first at c.put_records.ensures) in
    let whole : Answers list_of (fit (length a.out.now) list) a.out.now (record { number = 0; length = 2 + 8 * a.self.now.results.count + a.self.now.total }) c.put_records.new.out.out.now =
    answers_list plan sizes a.out.now _ _ (search rules) room (refl, omega (arith, long)) bytes in
    search rules
