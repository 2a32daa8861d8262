-- Each turn reads the next child that counts, so the tables hold one child more (`Collecting`); where there is no next child, the chain is the children so
-- far, or a refusal. Assumes nothing.
use borrow.Author.Rules.{rules}
use mathlib.Core.Path.{ap, ◌∙◌}
use native.Mathlib.Omega.{arith}
use Prim.Native.Nat.{ℕ, ◌<◌}
use Rattle.std.specs.Prelude.{Option, Ok}
use Rattle.std.proofs.lemmas.Result.{err_from_is_err_and}
use Rattle.child.specs.declared.Child.{Child}
use Rattle.chain.specs.Means.{next_is}
use Rattle.convert.proofs.Collecting.{collecting_none, read_here, collecting_pushed, ends, ends_refused}
use Rattle.convert.proofs.Tables.collect_children.Goals as goal

pub loop-j-init : goal.loop-j-init
loop-j-init c =
    collecting_none c.args.frame c.args.sheet.bytes.now _ _ _ c.new-self.ensures c.args.sheet.few (search rules) (search rules) (search rules)

pub push-requires : goal.push-requires
push-requires c =
    let so_far = c.loop-j.invariant in
    let here = read_here c.in_ok-j.ensures (ap Ok c.in-Some.is) in
    let room : c.loop-j.self.results.count < 512 = omega (arith, so_far.few, so_far.counted, here.0, here.1) in
    record {
      named = (so_far.planned.named.state, room, omega (arith, so_far.planned.named.near));
      total = so_far.measured.small;
    }

pub loop-j-preserved : goal.loop-j-preserved
loop-j-preserved c = collecting_pushed c.in_ok-j.ensures (ap Ok c.in-Some.is) c.loop-j.invariant c.push.ensures

pub returns-in_err-j : goal.returns-in_err-j
returns-in_err-j c =
    let so_far = c.loop-j.invariant in
    let refusal = err_from_is_err_and c.from_residual.result c.from_residual.ensures.1 in
    rw (refusal.1, refusal.2)
    (record { exact = ends_refused c.args.frame c.args.sheet.bytes.now _ _ _ so_far.reached _ c.in_err-j.ensures.exact; planned = so_far.planned; measured = so_far.measured })

pub returns : goal.returns
returns c =
    let so_far = c.loop-j.invariant in
    let a = c.args in
    let s = a.sheet.bytes.now in
    let last = c.in_ok-j.ensures.exact ∙ ap (λ (o : Option (ℕ × Child)). next_is a.frame s (Ok o)) c.in_default.is in
    record { exact = ends a.frame s _ _ _ so_far.reached last; planned = so_far.planned; measured = so_far.measured }
