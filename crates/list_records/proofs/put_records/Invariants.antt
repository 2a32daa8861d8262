use lib.ListN.{length}
use Rattle.bits.specs.Writer.{Writes}
use Rattle.list_records.specs.Tables.{records_up_to}
use Rattle.list_records.proofs.put_records.Given as goal

abbrev pub invariant-loop-j : goal.invariant-loop-j
invariant-loop-j l =
    let done = records_up_to l.frame l.names.bytes.now l.nodes l.names.entries.now l.j in
    Writes l.initial.out (length done) done l.out
