-- Bytes of ASCII leave nothing due, so reading may begin after them (`ascii_before`). Assumes nothing.
use Rattle.std.proofs.Common.{rules, tests, ◌+◌, ◌<◌, ◌≤◌, get_or}
use Rattle.std.proofs.lemmas.Iterator.{first_from_Range}
use Rattle.bits.proofs.WellFormed.{ascii_found}
use Rattle.bits.proofs.ascii_len.Goals as goal

pub returns-clause-rest : goal.returns-clause-rest
returns-clause-rest c =
    let a = c.args in
    rw c.unwrap_or.ensures
    (ascii_found a.s.now a.from a.n _
    (first_from_Range _ _ _ _ (λ k. 128 ≤ get_or a.s.now (a.from + k) 0) (λ k. get_or a.s.now (a.from + k) 0 < 128) c.find.ensures.ran (λ x q k. search (rules, tests)) (λ x q k. search (rules, tests))))
