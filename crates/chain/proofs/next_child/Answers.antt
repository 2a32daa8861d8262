-- The chain from the start is the chain from node i, which goes on as that node's step says. Assumes nothing.
use native.Mathlib.Omega.{arith}
use mathlib.Core.Path.{◌≡◌, sym, ap, ◌∙◌}
use Prim.Native.Nat.{◌<◌}
use Rattle.std.specs.Prelude.{Ok}
use Rattle.std.proofs.lemmas.Result.{err_from_is_err_and}
use Rattle.svgtree.specs.Parse.{count_of}
use Rattle.chain.specs.Means.{step_is}
use Rattle.chain.proofs.Steps.{chain_goes, chain_end}
use Rattle.chain.proofs.next_child.Goals as goal

pub returns-in-Count : goal.returns-in-Count
returns-in-Count c =
    let l = c.loop-i in
    let under : l.i < count_of c.args.sheet.bytes.now = omega (arith, c.node_count-i-end.ensures) in
    let counts = ap Ok c.in-Count.is in
    let e = sym c.in_ok-child.ensures ∙ ap (step_is c.args.sheet.bytes.now) counts in
    record {
      exact = chain_goes c.args.frame c.args.sheet.bytes.now l.i c.args.start under l.invariant e;
      here = (omega arith, under, e);
    }

pub returns-in-End : goal.returns-in-End
returns-in-End c =
    let under : c.loop-i.i < count_of c.args.sheet.bytes.now = omega (arith, c.node_count-i-end.ensures) in
    let e = sym c.in_ok-child.ensures ∙ ap (step_is c.args.sheet.bytes.now) (ap Ok c.in-End.is) in
    record { exact = chain_goes c.args.frame c.args.sheet.bytes.now c.loop-i.i c.args.start under c.loop-i.invariant e; here = tt }

pub returns-in_err-child : goal.returns-in_err-child
returns-in_err-child c =
    let under : c.loop-i.i < count_of c.args.sheet.bytes.now = omega (arith, c.node_count-i-end.ensures) in
    let p = err_from_is_err_and c.from_residual.result c.from_residual.ensures.1 in
    rw (p.1, p.2) (record {
      exact = chain_goes c.args.frame c.args.sheet.bytes.now c.loop-i.i c.args.start under c.loop-i.invariant (sym c.in_err-child.ensures);
      here = tt;
    })

pub loop-i-preserved : goal.loop-i-preserved
loop-i-preserved c =
    let under : c.loop-i.i < count_of c.args.sheet.bytes.now = omega (arith, c.node_count-i-end.ensures) in
    let e = sym c.in_ok-child.ensures ∙ ap (step_is c.args.sheet.bytes.now) (ap Ok c.in-Pass.is) in
    chain_goes c.args.frame c.args.sheet.bytes.now c.loop-i.i c.args.start under c.loop-i.invariant e

pub returns : goal.returns
returns c =
    let e : c.loop-i.i ≡ count_of c.args.sheet.bytes.now = omega (arith, c.node_count-i-end.ensures) in
    record { exact = c.loop-i.invariant ∙ chain_end c.args.frame c.args.sheet.bytes.now c.loop-i.i e; here = tt }
