-- The zeros are a part of the buffer replaced. Assumes nothing.
use Rattle.std.proofs.Common.{◌≡◌, ℕ, ◌+◌, ◌-◌, ◌∙◌, refl, ap, arith, length, take, drop, length-drop, length-take-le, replicate}
use Rattle.std.proofs.lemmas.List.{length-replicate}
use Rattle.bits.proofs.Patches.{put_part}
use Rattle.bits.proofs.Writing.{writes_put}
use Rattle.bits.proofs.writer.Writer.put_zeros.Goals as goal

pub returns : goal.returns
returns c =
    let w = c.args.self.now in
    let long : length (take (w.at + c.args.n - w.at) (drop w.at w.out.now)) ≡ c.args.n = length-take-le _ _ (simp length-drop (omega arith)) ∙ omega arith in
    let zeros = c.fill.ensures.after (λ y e. e) ∙ ap (λ (k : ℕ). replicate k 0) long in
    writes_put _ _ _ _ refl (put_part _ _ _ _ _ (length-replicate c.args.n 0) c.requires zeros) c.requires
