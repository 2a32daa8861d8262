-- Invariant: the first numbers, as many as the index says, are written. Each turn adds one number to the run and to what is written.
use lib.Ieee.{nan}
use native.Mathlib.Omega.{arith}
use Rattle.bits.proofs.Writing.{writes_none, ◌then◌, ◌counted◌}
use Rattle.tree.proofs.Runs.{run_more, run_none}
use Rattle.list_values.proofs.put_value_run.Goals as goal

pub loop-x-init : goal.loop-x-init
loop-x-init c = rw (run_none c.args.v.now) (writes_none _)

pub loop-x-preserved : goal.loop-x-preserved
loop-x-preserved c =
    rw (run_more c.args.v.now c.loop-x.x-index nan c.loop-x-test.true) (c.loop-x.invariant then c.put.ensures counted omega arith)
