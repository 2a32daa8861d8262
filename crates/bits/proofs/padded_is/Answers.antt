-- The run is padded to the word's length. Assumes nothing.
use Rattle.std.proofs.Common.{◌≡◌, ℕ, length, take, replicate, length-take-le}
use Rattle.std.proofs.lemmas.List.{length-replicate}
use Rattle.bits.proofs.Sameness.{same_pointwise}
use Rattle.bits.proofs.padded_is.Goals as goal

pub returns : goal.returns
returns c =
    let w = c.args.w.now in
    let long : length {A = ℕ} (take (length w) (replicate 255 0)) ≡ length w = length-take-le _ _ c.requires.within in
    rw (c.pad.ensures, long, ← same_pointwise) at c.eq.ensures
