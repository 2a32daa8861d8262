-- Laws on the pairs of offset and length: one record more, and how many bytes they are. Assumes nothing.
use mathlib.Core.Path.{◌≡◌, refl, sym, ap, ◌∙◌}
use mathlib.Core.List.{List, [], ◌∷◌, ◌++◌, append-nil, append_assoc}
use Prim.Native.Nat.{ℕ, zero, suc, ◌+◌, ◌*◌, ◌≤◌, ◌<◌}
use native.Mathlib.Nat.{add-zero}
use native.Mathlib.Numerals.{add-one}
use native.Mathlib.Omega.{arith}
use lib.ListN.{length, get_or, take}
use lib.Seq.{take-suc}
use Rattle.bits.specs.Bytes.{bytes32}
use Rattle.tree.specs.List.{pairs_bytes}
use Rattle.tree.specs.Sizes.{total}

pub total_snoc : (xs : List ℕ) (x : ℕ) → total (xs ++ (x ∷ [])) ≡ total xs + x
unfolding total
total_snoc [] x = omega arith
total_snoc (y ∷ ys) x = let r : total (ys ++ (x ∷ [])) ≡ total ys + x = total_snoc ys x in omega arith

pub pairs_snoc : (xs : List ℕ) (at x : ℕ) → pairs_bytes at (xs ++ (x ∷ [])) ≡ pairs_bytes at xs ++ (bytes32 (at + total xs) ++ bytes32 x)
unfolding pairs_bytes total
pairs_snoc [] at x = rw (add-zero at, append-nil (bytes32 at ++ bytes32 x))
pairs_snoc (y ∷ ys) at x =
    let e : at + y + total ys ≡ at + (y + total ys) = omega arith in
    rw (pairs_snoc ys (at + y) x, e) (sym (append_assoc (bytes32 at ++ bytes32 y) (pairs_bytes (at + y) ys) (bytes32 (at + (y + total ys)) ++ bytes32 x)))

pub length_pairs : (at : ℕ) (xs : List ℕ) → length (pairs_bytes at xs) ≡ 8 * length xs
unfolding pairs_bytes bytes32
length_pairs at [] = refl
length_pairs at (x ∷ xs) = let r : length (pairs_bytes (at + x) xs) ≡ 8 * length xs = length_pairs (at + x) xs in omega arith

total_take : (xs : List ℕ) (j n : ℕ) → j ≤ n → total (take j xs) ≤ total (take n xs)
unfolding total
total_take [] zero zero h = omega arith
total_take [] zero (suc n) h = omega arith
total_take [] (suc j) zero h = omega arith
total_take [] (suc j) (suc n) h = omega arith
total_take (x ∷ xs) zero n h = omega arith
total_take (x ∷ xs) (suc j) zero h = absurd (omega arith)
total_take (x ∷ xs) (suc j) (suc n) h = let r : total (take j xs) ≤ total (take n xs) = total_take xs j n (omega arith) in omega arith

module _ (xs : List ℕ) (j : ℕ) (h : j < length xs) where
  pub taken_more : take (j + 1) xs ≡ take j xs ++ (get_or xs j 0 ∷ [])
  taken_more = rw (add-one j) (take-suc xs j 0 h)

  pub total_more : total (take (j + 1) xs) ≡ total (take j xs) + get_or xs j 0
  total_more = ap total taken_more ∙ total_snoc (take j xs) (get_or xs j 0)

  pub total_room : (n : ℕ) → j < n → total (take j xs) + get_or xs j 0 ≤ total (take n xs)
  total_room n k = let r : total (take (j + 1) xs) ≤ total (take n xs) = total_take xs (j + 1) n (omega arith) in omega (arith, total_more)

pub pairs_none : (at : ℕ) (xs : List ℕ) → pairs_bytes at (take 0 xs) ≡ []
unfolding pairs_bytes
pairs_none at [] = refl
pairs_none at (x ∷ xs) = refl

pub total_none : (xs : List ℕ) → total (take 0 xs) ≡ 0
unfolding total
total_none [] = refl
total_none (x ∷ xs) = refl
