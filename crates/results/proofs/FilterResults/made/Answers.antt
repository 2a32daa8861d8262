-- The number goes on while its name is taken, at most to the first that is free. Assumes nothing.
use mathlib.Core.Path.{sym, refl, ◌∙◌}
use native.Mathlib.Omega.{arith}
use Rattle.naming.specs.Names.{own_names}
use Rattle.naming.proofs.Naming.{free_at_least, free_at_most, free_go, free_stop}
use Rattle.results.specs.Means.{labels_is}
use Rattle.results.proofs.Tables.{taken_few}
use Rattle.results.proofs.FilterResults.made.Goals as goal

pub loop-so_far-init : goal.loop-so_far-init
loop-so_far-init c =
    let f = c.args.self in
    (omega arith, free_at_least (own_names (labels_is c.args.s.now c.args.names.now f.count)) f.idx)

pub overflow_add-k : goal.overflow_add-k
overflow_add-k c =
    let f = c.args.self in
    omega (arith, free_at_most (own_names (labels_is c.args.s.now c.args.names.now f.count)) f.idx, taken_few c.args.s.now c.args.names.now f.count)

pub loop-so_far-smaller : goal.loop-so_far-smaller
loop-so_far-smaller c =
    let f = c.args.self in
    let l = c.loop-so_far in
    omega (arith, free_go (own_names (labels_is c.args.s.now c.args.names.now f.count)) f.idx l.k l.invariant.1 (sym c.is_taken.ensures ∙ c.loop-so_far-test.true))

pub loop-so_far-preserved : goal.loop-so_far-preserved
loop-so_far-preserved c =
    let f = c.args.self in
    let l = c.loop-so_far in
    (omega arith, omega (arith, free_go (own_names (labels_is c.args.s.now c.args.names.now f.count)) f.idx l.k l.invariant.1 (sym c.is_taken.ensures ∙ c.loop-so_far-test.true)))

pub overflow_add-self-2 : goal.overflow_add-self-2
overflow_add-self-2 c =
    let f = c.args.self in
    omega (arith, free_at_most (own_names (labels_is c.args.s.now c.args.names.now f.count)) f.idx, taken_few c.args.s.now c.args.names.now f.count)

pub returns : goal.returns
returns c =
    let f = c.args.self in
    let l = c.loop-so_far in
    let os = own_names (labels_is c.args.s.now c.args.names.now f.count) in
    let q = free_stop os f.idx l.k l.invariant.0 l.invariant.1 (sym c.is_taken.ensures ∙ c.loop-so_far-test.false) in
    record { count = refl; highest = refl; idx = omega (arith, q); near = omega (arith, free_at_most os f.idx, taken_few c.args.s.now c.args.names.now f.count) }
