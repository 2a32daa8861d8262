-- An id that is larger than every listed id asks no kind. That no listed id is so large is a test that is computed.
-- Assumes nothing.
use Rattle.std.specs.Prelude.{None}
use mathlib.Core.Path.{◌≡◌, refl, sym}
use mathlib.Core.Bool.{Bool, true, false, ◌&&◌}
use mathlib.Core.List.{List, [], ◌∷◌}
use Prim.Native.Nat.{ℕ, ◌+◌, ◌≤◌}
use native.Mathlib.Omega.{arith}
use lib.Dec.{T, ltb, ltb→lt}
use borrow.Author.Tests.{ne_eqb, ltb-true, ltb-false}
use Rattle.names.specs.Kinds.{Asking, among, kind_in}
use Rattle.names.proofs.Table.{and_left, and_right, NoneOf, value_from, ranged}

abbrev below : ℕ → List ℕ → Bool
below n [] = true
below n (i ∷ is) = ltb i n && below n is

abbrev all_below : ℕ → List Asking → Bool
all_below n [] = true
all_below n (a ∷ rest) = below n a.ids && all_below n rest

module _ (n id : ℕ) (h : n ≤ id) where
  not_among : (is : List ℕ) → T (below n is) → among id is ≡ false
  unfolding among
  not_among [] t = refl
  not_among (i ∷ is) t =
      let l = ltb→lt i n (and_left (ltb i n) (below n is) t) in
      simp (ne_eqb id i (λ e. omega arith), not_among is (and_right (ltb i n) (below n is) t))

  unlisted : (l : List Asking) → T (all_below n l) → kind_in l id ≡ None
  unfolding kind_in
  unlisted [] t = refl
  unlisted (a ∷ rest) t =
      simp (not_among a.ids (and_left (below n a.ids) (all_below n rest) t), unlisted rest (and_right (below n a.ids) (all_below n rest) t))

-- an id from i on that is no arm's key asks no kind, if none of the m ids from i on does and no listed id is as large as i + m
pub ranged_on : (l : List Asking) (arms : List (List ℕ)) (x : ℕ) → NoneOf arms x → (i m : ℕ) → T (all_below (i + m) l) → T (value_from (kind_in l) None arms i m) → i ≤ x
    → None ≡ kind_in l x
ranged_on l arms x none i m all t h = go (ltb x (i + m)) refl
  where
    go : (b : Bool) → ltb x (i + m) ≡ b → None ≡ kind_in l x
    go true q = ranged (kind_in l) None arms x none i m t h (ltb-true x (i + m) q)
    go false q = sym (unlisted (i + m) x (ltb-false x (i + m) q) l all)
