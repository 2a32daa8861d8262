-- Invariant: the numbers so far are written, and the others are left. Each turn adds one number to the run and to what is written.
use native.Mathlib.Omega.{arith}
use mathlib.Core.Path.{◌≡◌, sym, ap, ◌∙◌}
use mathlib.Core.List.{List, [], ◌∷◌, ◌++◌, append_assoc, append-nil}
use lib.ListN.{length, length-append}
use lib.Ieee.{Float}
use Rattle.bits.proofs.Writing.{◌then◌, ◌counted◌, writes_none}
use Rattle.number_list.specs.Lists.{numbers_is, numbers_left}
use Rattle.tree.proofs.Runs.{run_snoc, run_none}
use Rattle.list_values.proofs.put_run.Goals as goal

pub loop-x-init : goal.loop-x-init
loop-x-init c = record { written = rw (run_none []) (writes_none _); left = sym (ap numbers_left c.into_iter-x-iterator.ensures.into_iter_gives ∙ c.iter-x-items.ensures) }

pub put-requires : goal.put-requires
put-requires c =
    let l = c.loop-x in
    let w = l.invariant.written in
    omega (arith, w.next, w.long, ap length l.invariant.left, length-append l.yielded (numbers_left l.x-iterator), ap length c.in-Some.ensures.steps)

pub loop-x-preserved : goal.loop-x-preserved
loop-x-preserved c =
    let l = c.loop-x in
    let x = c.in-Some.x in
    record {
      written = rw (run_snoc l.yielded x) (l.invariant.written then c.put.ensures counted omega (arith, length-append l.yielded (x ∷ [])));
      left = l.invariant.left ∙ ap (λ (xs : List Float). l.yielded ++ xs) c.in-Some.ensures.steps ∙ sym (append_assoc l.yielded (x ∷ []) (numbers_left c.next.new.self));
    }

pub returns : goal.returns
returns c =
    let l = c.loop-x in
    let all : numbers_is c.args.s.now c.args.v ≡ l.yielded = l.invariant.left ∙ ap (λ (xs : List Float). l.yielded ++ xs) c.in-None.ensures.steps.0 ∙ append-nil l.yielded in
    rw all l.invariant.written
