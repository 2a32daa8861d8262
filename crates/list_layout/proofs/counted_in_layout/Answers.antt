-- Behind the count stand its pairs, or too few bytes for them: `pairs_in`, `pairs_short`.
use Rattle.std.proofs.Common.{sym}
use Rattle.list_layout.proofs.Listing.{pairs_short}
use Rattle.list_layout.proofs.counted_in_layout.Goals as goal

pub returns-in-None : goal.returns-in-None
returns-in-None c = sym (pairs_short _ _ _ _ _ c.in-Some.ensures c.if-n-gt512.false (rw c.from-size.ensures at c.in-None.ensures.cases))
