-- Each arm passes the items of its case: `case_at`, `case_of`.
use Rattle.std.proofs.Common.{◌≡◌, refl, arith, ℕ, zero, suc, ◌<◌, [], ◌∷◌, get_or}
use Rattle.list_read.specs.Layout.{f32s}
use Rattle.list_layout.proofs.Walking.{case_at, case_of}
use Rattle.list_layout.proofs.after_composite_operator.Goals as goal

-- all cases but the last are empty
no_items : (k : ℕ) → k < 6 → get_or ([] ∷ [] ∷ [] ∷ [] ∷ [] ∷ [] ∷ (f32s 4 ∷ []) ∷ []) k [] ≡ []
no_items zero h = refl
no_items (suc zero) h = refl
no_items (suc (suc zero)) h = refl
no_items (suc (suc (suc zero))) h = refl
no_items (suc (suc (suc (suc zero)))) h = refl
no_items (suc (suc (suc (suc (suc zero))))) h = refl
no_items (suc (suc (suc (suc (suc (suc k)))))) h = absurd (omega arith)

pub returns-in-6 : goal.returns-in-6
returns-in-6 c = case_at _ _ c.in_ok-k.ensures.value 6 c.in-6.is c.after_numbers.ensures

pub returns-in_default : goal.returns-in_default
returns-in_default c = case_of _ _ c.in_ok-k.ensures.value [] (no_items _ (omega (arith, c.in_ok-k.ensures.below))) refl
