-- The sign that stands first, or none: whether it is a minus, and what follows it. Assumes nothing.
use Rattle.std.specs.Prelude.{None, Some}
use Rattle.std.specs.List.{slice_get}
use Prim.Native.Nat.{ℕ}
use mathlib.Core.Path.{◌≡◌, refl}
use mathlib.Core.Bool.{true, ◌||◌}
use mathlib.Core.List.{List, [], ◌∷◌}
use lib.ListN.{drop}
use lib.Dec.{eqb}
use borrow.Author.Tests.{ne_eqb}
use Rattle.decimal.specs.Grammar.{unsigned, negative}
use Rattle.decimal.specs.Windows.{starts_with}

pub minus_is : (t : List ℕ) → starts_with 45 t ≡ negative t
unfolding starts_with negative
minus_is [] = refl
minus_is (b ∷ t) = refl

sign_one : (t : List ℕ) (b : ℕ) → slice_get t 0 ≡ Some b → (eqb b 43 || eqb b 45) ≡ true → drop 1 t ≡ unsigned t
unfolding unsigned
sign_one [] b e h = cc
sign_one (x ∷ t) b e h = let f : x ≡ b = cc in rw (f, h)

pub sign_plus : (t : List ℕ) → slice_get t 0 ≡ Some 43 → drop 1 t ≡ unsigned t
sign_plus t e = sign_one t 43 e refl

pub sign_minus : (t : List ℕ) → slice_get t 0 ≡ Some 45 → drop 1 t ≡ unsigned t
sign_minus t e = sign_one t 45 e refl

pub sign_none : (t : List ℕ) → slice_get t 0 ≡ None → t ≡ unsigned t
unfolding unsigned
sign_none [] e = refl
sign_none (x ∷ t) e = cc

pub sign_other : (t : List ℕ) (b : ℕ) → slice_get t 0 ≡ Some b → (b ≡ 43 → ⊥) → (b ≡ 45 → ⊥) → t ≡ unsigned t
unfolding unsigned
sign_other [] b e p q = refl
sign_other (x ∷ t) b e p q = let f : x ≡ b = cc in rw (f, ne_eqb _ _ p, ne_eqb _ _ q)
