-- A sheet past refusals 1 to 4, 10 and 11 is read as it is given: refusal 1 keeps offsets small, refusal 2 keeps every read within the bytes and every
-- attribute at its kind's length, refusals 10 and 11 keep every typed list to its outcome, and refusal 3 keeps every number finite. Assumes nothing.
use Rattle.std.specs.Prelude.{Ok}
use Prim.Native.Nat.{ℕ}
use mathlib.Core.Path.{◌≡◌}
use mathlib.Core.List.{List}
use Rattle.svgtree.specs.Parse.{sheet_of}
use Rattle.sheet_layout.proofs.Offsets.{record_within, offset_exact}
use Rattle.sheet_check.specs.Refusals.{first_refusal}
use Rattle.sheet_accepted.specs.Given.{ReadAsGiven}
use Rattle.sheet_accepted.proofs.Accepted.{passed, short_sheet}
use Rattle.sheet_accepted.proofs.Texts.{texts_read}
use Rattle.sheet_accepted.proofs.Whole.{record_whole}
use Rattle.sheet_accepted.proofs.End.{end_same}
use Rattle.sheet_accepted.proofs.Numbers.{numbers_given}

pub read_as_given : (s : List ℕ) → first_refusal s ≡ (Ok tt) → ReadAsGiven s
read_as_given s h =
    let layout = (passed s h).layout in
    record {
      offsets = λ i l. offset_exact s layout i l (short_sheet s h);
      attributes = λ i l. record_whole s i (record_within s layout i l).0 (texts_read s (passed s h).grammar (passed s h).limits i l);
      end = λ more. end_same s more layout (short_sheet s h);
      numbers = numbers_given (sheet_of s) (passed s h).numbers;
    }
