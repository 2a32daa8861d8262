-- The numbers of a list in bytes: how many, and which. Assumes nothing.
use mathlib.Core.Path.{◌≡◌, refl, ap, ◌∙◌}
use mathlib.Core.List.{List, [], ◌∷◌}
use Prim.Native.Nat.{ℕ, zero, suc, ◌+◌, ◌-◌, ◌*◌, ◌≤◌, ◌<◌}
use native.Mathlib.Omega.{arith}
use lib.ListN.{length, get_or, get_or-eq_default}
use Rattle.bits.specs.Bytes.{le32}
use Rattle.num.specs.Constants.{plus_zero}
use Rattle.num.specs.Means.{single_of}
use Rattle.number_list.specs.Lists.{numbers_from}

pub numbers_length : (s : List ℕ) (at n : ℕ) → length (numbers_from s at n) ≡ n
unfolding numbers_from
numbers_length s at zero = refl
numbers_length s at (suc n) = ap suc (numbers_length s (at + 4) n)

-- ---- what is left of a list, one number on
pub packed_start : (s : List ℕ) (at n : ℕ) → numbers_from s (at + 4 * 0) (n - 0) ≡ numbers_from s at n
packed_start s at n =
    let a : at + 4 * 0 ≡ at = omega arith in
    let e : n - 0 ≡ n = omega arith in
    rw (a, e)

module _ (s : List ℕ) (at n i : ℕ) where
  pub packed_next : i < n → numbers_from s (at + 4 * i) (n - i) ≡ single_of (le32 s (at + 4 * i)) ∷ numbers_from s (at + 4 * (i + 1)) (n - (i + 1))
  unfolding numbers_from
  packed_next h =
      let e : n - i ≡ suc (n - (i + 1)) = omega arith in
      let a : at + 4 * i + 4 ≡ at + 4 * (i + 1) = omega arith in
      rw (e, a)

  pub packed_end : n ≤ i → numbers_from s (at + 4 * i) (n - i) ≡ []
  unfolding numbers_from
  packed_end h =
      let e : n - i ≡ 0 = omega arith in
      rw e

-- ---- the number at an index
module _ (s : List ℕ) where
  pub packed_at : (at n i : ℕ) → i < n → get_or (numbers_from s at n) i plus_zero ≡ single_of (le32 s (at + 4 * i))
  unfolding numbers_from
  packed_at at (suc n) zero h = let a : at + 4 * 0 ≡ at = omega arith in rw a
  packed_at at (suc n) (suc i) h =
      let a : at + 4 + 4 * i ≡ at + 4 * suc i = omega arith in
      packed_at (at + 4) n i (omega (arith, h)) ∙ rw a
  packed_at at zero i h = absurd (omega (arith, h))

  pub packed_past : (at n i : ℕ) → n ≤ i → get_or (numbers_from s at n) i plus_zero ≡ plus_zero
  packed_past at n i h = get_or-eq_default (numbers_from s at n) plus_zero {n = i} (rw (numbers_length s at n) h)
