-- The table is the list of 5 ^ p * 2 ^ p, by computing, and the place p of that list holds the one for p. Assumes nothing.
use mathlib.Core.Path.{◌≡◌, ap, ◌∙◌}
use Prim.Native.Nat.{ℕ, zero, suc, ◌+◌, ◌^◌, ◌<◌}
use native.Mathlib.Omega.{arith}
use mathlib.Core.Bool.{false}
use mathlib.Core.List.{List, [], ◌∷◌}
use lib.ListN.{get_or}
use lib.IntN.{pos}
use lib.Ieee.{Float, of_bits, fin}
use Rattle.decimal.proofs.power_of_ten.Goals as goal

abbrev ten : ℕ → Float
ten p = fin false (5 ^ p) (pos p)

-- n of them, from k on
tens_from : ℕ → ℕ → List Float
tens_from k zero = []
tens_from k (suc n) = ten k ∷ tens_from (k + 1) n

place : (n k p : ℕ) (d : Float) → p < n → get_or (tens_from k n) p d ≡ ten (p + k)
unfolding tens_from
place zero k p d h = absurd (omega arith)
place (suc n) k zero d h = ap ten (first k)
  where
    first : (k : ℕ) → k ≡ 0 + k
    first k = omega arith
place (suc n) k (suc p) d h = place n (k + 1) p d (omega arith) ∙ ap ten (sums k p)
  where
    sums : (k p : ℕ) → p + (k + 1) ≡ suc p + k
    sums k p = omega arith

pub returns : goal.returns
unfolding of_bits tens_from
returns c = place 23 0 c.args.p _ (omega arith) ∙ ap ten (whole c.args.p)
  where
    whole : (p : ℕ) → p + 0 ≡ p
    whole p = omega arith
