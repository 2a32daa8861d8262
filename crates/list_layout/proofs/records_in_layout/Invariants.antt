-- Each turn tests the record of the first pair still to come: all records are in the layout if those still to come are, behind the pairs still to come.
use Rattle.std.proofs.Common.{◌≡◌, ◌+◌, length}
use Rattle.std.specs.Slice.Iter.{chunks_exact_rest, chunks_exact_size}
use Rattle.list_layout.proofs.Listing.{paired}
use Rattle.list_layout.proofs.records_in_layout.Given as goal

abbrev pub invariant-loop-pair : goal.invariant-loop-pair
invariant-loop-pair l =
    (chunks_exact_size l.pair-iterator ≡ 8)
    × (l.at + length l.left ≡ l.first + length l.records)
    × (paired l.form l.first l.pairs l.records ≡ paired l.form l.at (chunks_exact_rest l.pair-iterator) l.left)
