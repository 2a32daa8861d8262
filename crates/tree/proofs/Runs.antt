-- Laws on numbers in a row: one number more, all of them, and how many bytes they are. Assumes nothing.
use Prim.Native.Nat.{ℕ, ◌+◌, ◌*◌, ◌<◌}
use native.Mathlib.Numerals.{add-one}
use native.Mathlib.Omega.{arith}
use mathlib.Core.Path.{◌≡◌, refl, sym, ap, ◌∙◌}
use mathlib.Core.List.{List, [], ◌∷◌, ◌++◌, append-nil, append_assoc}
use lib.ListN.{length, get_or, take}
use lib.Seq.{take-suc}
use lib.Ieee.{Float}
use Rattle.bits.specs.Bytes.{bytes16, bytes32, bytes_f}
use Rattle.tree.specs.Scalars.{run_bytes, numbers_bytes}
use Rattle.tree.specs.Sizes.{numbers_size}

-- one number more at the end
pub run_snoc : (xs : List Float) (x : Float) → run_bytes (xs ++ (x ∷ [])) ≡ run_bytes xs ++ bytes_f x
unfolding run_bytes
run_snoc [] x = append-nil (bytes_f x)
run_snoc (y ∷ ys) x = rw (run_snoc ys x) (sym (append_assoc (bytes_f y) (run_bytes ys) (bytes_f x)))

-- the same by how many stand before it
pub run_more : (xs : List Float) (j : ℕ) (d : Float) → j < length xs → run_bytes (take (j + 1) xs) ≡ run_bytes (take j xs) ++ bytes_f (get_or xs j d)
run_more xs j d h = ap run_bytes (ap (λ (k : ℕ). take k xs) (add-one j) ∙ take-suc xs j d h) ∙ run_snoc (take j xs) (get_or xs j d)

pub run_none : (xs : List Float) → run_bytes (take 0 xs) ≡ []
unfolding run_bytes
run_none [] = refl
run_none (x ∷ xs) = refl

pub length_run : (xs : List Float) → length (run_bytes xs) ≡ 4 * length xs
unfolding run_bytes bytes32
length_run [] = refl
length_run (x ∷ xs) = let r : length (run_bytes xs) ≡ 4 * length xs = length_run xs in omega arith

pub length_numbers : (xs : List Float) → length (numbers_bytes xs) ≡ numbers_size xs
unfolding numbers_bytes bytes16
length_numbers xs = omega (arith, length_run xs)
