-- Each arm passes the items of its case: `case_at`, `case_of`.
use Rattle.std.proofs.Common.{◌≡◌, refl, arith, [], ◌∷◌}
use Rattle.list_read.specs.Layout.{f32s, vec}
use Rattle.list_layout.proofs.Walking.{case_at, case_of, same_items}
use Rattle.list_layout.proofs.after_transfer_function.Goals as goal

pub returns-in-0 : goal.returns-in-0
returns-in-0 c = case_at _ _ c.in_ok-k.ensures.value 0 c.in-0.is refl

pub returns-in-1 : goal.returns-in-1
returns-in-1 c = case_of _ _ c.in_ok-k.ensures.value (vec 0 1024 ∷ []) (same_items _ _ ((f32s 2 ∷ []) ∷ (f32s 3 ∷ []) ∷ []) c.in_ok-k.k (omega arith) (omega arith)) c.after_vec.ensures

pub returns-in-3 : goal.returns-in-3
returns-in-3 c = case_at _ _ c.in_ok-k.ensures.value 3 c.in-3.is c.after_numbers.ensures

pub returns-in_default : goal.returns-in_default
returns-in_default c =
    let last : c.in_ok-k.k ≡ 4 = omega (arith, c.in_ok-k.ensures.below) in
    case_at _ _ c.in_ok-k.ensures.value 4 last c.after_numbers-in_default.ensures
