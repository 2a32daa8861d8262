-- A power of ten, ± e - k, as what is raised less what is lowered, of which one is 0. Assumes nothing.
use mathlib.Core.Path.{◌≡◌, refl, sym, ap, ◌∙◌}
use mathlib.Core.Bool.{Bool, true, false, cond}
use Prim.Native.Nat.{ℕ, zero, suc, ◌+◌, ◌-◌, ◌*◌, ◌^◌}
use native.Mathlib.Nat.{mul-one}
use native.Mathlib.Omega.{arith}
use lib.IntN.{ℤ, pos, negsuc, neg_ℤ, nat_abs, ◌-ℤ◌}
use lib.Signed.{le_z}
use lib.Ieee.{Float, fin, binary64, mul, div, round}
use lib.Ieee.Exact.{HasValue}
use Rattle.decimal.proofs.Tens.{times_ten, through_ten}
use lib.Dec.{ltb}
use borrow.Author.Tests.{ltb-true, ltb-false, leb-false}
use Rattle.decimal.specs.Means.{raised, lowered, signed_exponent}

-- z is u - w
abbrev pub Is : ℤ → ℕ → ℕ → Type 0
Is z u w = (raised z ≡ u - w) × (lowered z ≡ w - u)

up_power : (e k : ℕ) → Is (pos e -ℤ pos k) e k
up_power e zero = (omega arith, omega arith)
up_power e (suc k) = go (ltb e (suc k)) refl
  where
    go : (b : Bool) → ltb e (suc k) ≡ b → Is (cond b (negsuc (suc k - suc e)) (pos (e - suc k))) e (suc k)
    go true h = let l = ltb-true e (suc k) h in (omega arith, omega arith)
    go false h = let l = ltb-false e (suc k) h in (omega arith, omega arith)

down_power : (e k : ℕ) → Is (neg_ℤ (pos e) -ℤ pos k) 0 (k + e)
down_power zero k = let p = up_power 0 k in (omega (arith, p.0), omega (arith, p.1))
down_power (suc e) zero = go (ltb 0 (suc e)) refl
  where
    go : (b : Bool) → ltb 0 (suc e) ≡ b → Is (cond b (negsuc (suc e - suc 0)) (pos (0 - suc e))) 0 (0 + suc e)
    go true h = (omega arith, omega arith)
    go false h = let l = ltb-false 0 (suc e) h in (omega arith, omega arith)
down_power (suc e) (suc k) = (omega arith, omega arith)

pub power_is : (minus : Bool) (e k : ℕ) → Is (signed_exponent minus e -ℤ pos k) (cond minus 0 e) (k + cond minus e 0)
power_is true e k = down_power e k
power_is false e k = let p = up_power e k in (omega (arith, p.0), omega (arith, p.1))

-- a number times or through a power of ten
pub times_power : (s : Bool) (n : ℕ) (z : ℤ) (x : Float) → HasValue x s n 1 → le_z (pos 0) z ≡ true
    → mul binary64 x (fin false (5 ^ nat_abs z) (pos (nat_abs z))) ≡ round binary64 s (n * 10 ^ raised z) (10 ^ lowered z)
times_power s n (pos p) x v h = times_ten s n p x v
times_power s n (negsuc p) x v h = cc

pub through_power : (s : Bool) (n : ℕ) (z : ℤ) (x : Float) → HasValue x s n 1 → le_z (pos 0) z ≡ false
    → div binary64 x (fin false (5 ^ nat_abs z) (pos (nat_abs z))) ≡ round binary64 s (n * 10 ^ raised z) (10 ^ lowered z)
through_power s n (pos p) x v h = let l = leb-false 0 p h in absurd (omega arith)
through_power s n (negsuc p) x v h = through_ten s n (suc p) x v ∙ ap (λ (k : ℕ). round binary64 s k (10 ^ suc p)) (sym (mul-one n))
