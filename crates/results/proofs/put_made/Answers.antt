-- The count, `result` and the digits, written one after the other, are the made name's text: `text_made`. Assumes nothing.
use native.Mathlib.Omega.{arith}
use Rattle.bits.specs.Bytes.{bytes16}
use Rattle.bits.proofs.Writing.{◌then◌, ◌counted◌}
use Rattle.results.proofs.Sizes.{text_made}
use Rattle.results.proofs.put_made.Goals as goal

pub returns : goal.returns
unfolding bytes16
returns c =
    rw (text_made c.args.k, ← c.digits_of-digits.ensures.0) (c.put.ensures then (c.put_bytes.ensures then c.put_run.ensures) counted omega arith)
