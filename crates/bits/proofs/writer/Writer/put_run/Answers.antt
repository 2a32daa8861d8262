-- The bytes are a part of the buffer replaced. Assumes nothing.
use mathlib.Core.Path.{refl}
use Rattle.bits.proofs.Patches.{put_part}
use Rattle.bits.proofs.Writing.{writes_put}
use Rattle.bits.proofs.writer.Writer.put_run.Goals as goal

pub returns : goal.returns
returns c = writes_put _ _ _ _ refl (put_part _ _ _ _ _ refl c.requires c.copy_run.ensures) c.requires
