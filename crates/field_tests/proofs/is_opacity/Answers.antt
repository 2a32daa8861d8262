-- The range's test is the definition's two comparisons (`within_bounds`). Assumes nothing.
use lib.Ieee.{of_bits}
use Rattle.num.specs.Sign.{opacity_in}
use Rattle.field_tests.proofs.Finiteness.{within_bounds}
use Rattle.field_tests.proofs.is_opacity.Goals as goal

pub returns-then-contains : goal.returns-then-contains
unfolding opacity_in of_bits
returns-then-contains c =
    let new = c.new.ensures in
    let within = within_bounds c.args.x _ _ _ _ _ _ new.start new.end new.exhausted c.contains.ensures.value in
    rw (c.is_sign_negative.ensures, ← within, c.if-contains.true)

pub returns-else-contains : goal.returns-else-contains
unfolding opacity_in of_bits
returns-else-contains c =
    let new = c.new.ensures in
    let within = within_bounds c.args.x _ _ _ _ _ _ new.start new.end new.exhausted c.contains.ensures.value in
    rw (← within, c.if-contains.false)
