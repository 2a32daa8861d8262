-- The second text is padded to its length. Assumes nothing.
use Rattle.std.proofs.Common.{◌≡◌, ℕ, ◌≤◌, arith, length, take, replicate, length-take-le}
use Rattle.bits.proofs.is_padded.Goals as goal

pub returns : goal.returns
returns c =
    let n = c.args.b.len in
    let within : n ≤ 255 = omega arith in
    let long : length {A = ℕ} (take n (replicate 255 0)) ≡ n = length-take-le _ _ within in
    rw (c.pad.ensures, c.from.ensures, long) at c.text_is.ensures
