-- Each arm passes the items of its case: `case_at`.
use Rattle.std.proofs.Common.{◌≡◌, refl, arith}
use Rattle.list_layout.proofs.Walking.{case_at}
use Rattle.list_layout.proofs.after_light_source.Goals as goal

pub returns-in-0 : goal.returns-in-0
returns-in-0 c = case_at _ _ c.in_ok-k.ensures.value 0 c.in-0.is c.after_numbers.ensures

pub returns-in-1 : goal.returns-in-1
returns-in-1 c = case_at _ _ c.in_ok-k.ensures.value 1 c.in-1.is c.after_numbers-in-1.ensures

pub returns-in_err-s-in_default : goal.returns-in_err-s-in_default
returns-in_err-s-in_default c =
    let last : c.in_ok-k.k ≡ 2 = omega (arith, c.in_ok-k.ensures.below) in
    case_at _ _ c.in_ok-k.ensures.value 2 last (rw (c.from_residual-in_err-s-in_default.ensures, ← c.in_err-s-in_default.ensures) refl)

pub returns-in_ok-s-in_default : goal.returns-in_ok-s-in_default
returns-in_ok-s-in_default c =
    let last : c.in_ok-k.k ≡ 2 = omega (arith, c.in_ok-k.ensures.below) in
    case_at _ _ c.in_ok-k.ensures.value 2 last (rw (← c.in_ok-s-in_default.ensures) c.after_option.ensures)
