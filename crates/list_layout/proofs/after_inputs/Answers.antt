-- Each turn passes one of the inputs still to come: `inputs_step`.
use Rattle.std.proofs.Common.{suc, ◌+◌, ◌-◌, ◌≡◌, ◌∙◌, refl, sym, arith}
use Rattle.list_read.specs.Records.{read_inputs}
use Rattle.list_read.specs.Read.{read_many}
use Rattle.list_layout.proofs.Walking.{inputs_step}
use Rattle.list_layout.proofs.after_inputs.Goals as goal

pub returns-in_err-s : goal.returns-in_err-s
returns-in_err-s c =
    let more : c.args.n - c.loop.counter ≡ suc (c.args.n - (c.loop.counter + 1)) = omega arith in
    rw c.from_residual.ensures (sym (c.loop.invariant ∙ rw more (inputs_step _ _ _ ∙ rw (← c.in_err-s.ensures) refl)))

pub loop-preserved : goal.loop-preserved
loop-preserved c =
    let more : c.args.n - c.loop.counter ≡ suc (c.args.n - (c.loop.counter + 1)) = omega arith in
    c.loop.invariant ∙ rw more (inputs_step _ _ _ ∙ rw (← c.in_ok-s.ensures) refl)

pub returns : goal.returns
unfolding read_inputs read_many
returns c =
    let none : c.args.n - c.loop.counter ≡ 0 = omega arith in
    sym (rw none at c.loop.invariant)
