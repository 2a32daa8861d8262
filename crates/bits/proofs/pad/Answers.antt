-- All that is left from the place on is copied over the front of zeros. Assumes nothing.
use Rattle.std.proofs.Common.{length, length-drop}
use Rattle.bits.proofs.Runs.{bytes_from_rest}
use Rattle.bits.proofs.pad.Goals as goal

pub returns : goal.returns
returns c =
    let left = c.left_from-left in
    rw (c.copy_run.ensures, c.fill.ensures.after (λ y e. e)) (bytes_from_rest c.args.s.now c.args.at (length c.args.bytes.now) left.result.now left.ensures (rw (left.ensures, length-drop) c.requires))
