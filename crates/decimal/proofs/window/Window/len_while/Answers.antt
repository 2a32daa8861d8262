-- The search goes past bytes that pass alone (`prefix_found`). Assumes nothing.
use Rattle.std.proofs.Common.{rules, ◌≡◌, ◌+◌, true, false, get_or}
use Rattle.std.proofs.lemmas.Iterator.{first_from_Range}
use Rattle.decimal.proofs.Windows.{prefix_found}
use Rattle.decimal.proofs.window.Window.len_while.Goals as goal

pub returns-clause-len : goal.returns-clause-len
returns-clause-len g c =
    λ p q.
    let w = c.args.self in
    rw c.unwrap_or.ensures
    (prefix_found w.bytes.now p w.at w.len _
    (first_from_Range _ _ _ _ (λ k. p (get_or w.bytes.now (w.at + k) 0) ≡ false) (λ k. p (get_or w.bytes.now (w.at + k) 0) ≡ true) c.find.ensures.ran (λ x f k. search rules) (λ x f k. search rules)))
