-- The highest number, if there is one: what is above it, and the higher of two. Assumes nothing.
use mathlib.Core.Path.{◌≡◌, refl, sym, ◌∙◌}
use mathlib.Core.Bool.{true, cond}
use Prim.Native.Nat.{ℕ, ◌<◌}
use native.Mathlib.Omega.{arith}
use borrow.Author.Tests.{eqb-true}
use Rattle.std.proofs.Common.{nat_cmp}
use Rattle.std.proofs.lemmas.Grind.{common_steps}
use Rattle.std.specs.Prelude.{Option, Some, None}
use Rattle.std.specs.Option.{option_cmp, option_partial_cmp}
use Rattle.std.proofs.Common.{Ordering, Less, Equal, Greater}
use Rattle.std.specs.Ordering.{is_lt, ord_max, partial_lt, as_partial_cmp, MatchOrdering}
use Rattle.std.specs.Cmp.{ranks, ranked}
use Rattle.bits.specs.Bytes.{same}
use Rattle.tree.specs.Input.{Name}
use Rattle.naming.specs.Names.{made_name}
use Rattle.results.specs.Means.{IsAbove, IsUpTo, KeyOf}

pub up_to_below : (o : Option ℕ) (k : ℕ) → IsUpTo o k → IsAbove o k → ⊥
up_to_below None k h a = h
up_to_below (Some n) k h a = omega arith

pub less_above : (o : Option ℕ) (k : ℕ) → partial_lt (option_partial_cmp (as_partial_cmp nat_cmp)) o (Some k) ≡ true → IsAbove o k
less_above None k e = tt
less_above (Some n) k e = let r = ranks n k in grind (arith, common_steps)

-- what is above the higher of two is above the first
pub max_old : (a b : Option ℕ) (k : ℕ) → IsAbove (ord_max (option_cmp nat_cmp) a b) k → IsAbove a k
max_old None b k h = tt
max_old (Some n) None k h = h
max_old (Some n) (Some m) k h = go (nat_cmp m n) (ranked m n _ refl) h
  where
    go : (c : Ordering) → MatchOrdering c (m < n) (m ≡ n) (n < m) → IsAbove (cond (is_lt c) (Some n) (Some m)) k → n < k
    go Less r h = omega arith
    go Equal r h = omega arith
    go Greater r h = omega arith

-- and the second is no higher than it
max_new : (a : Option ℕ) (m : ℕ) → IsUpTo (ord_max (option_cmp nat_cmp) a (Some m)) m
max_new None m = omega arith
max_new (Some n) m = go (nat_cmp m n) (ranked m n _ refl)
  where
    go : (c : Ordering) → MatchOrdering c (m < n) (m ≡ n) (n < m) → IsUpTo (cond (is_lt c) (Some n) (Some m)) m
    go Less r = omega arith
    go Equal r = omega arith
    go Greater r = omega arith

-- the number of a made name is no higher than the higher of a number and its own
pub max_key : (a b : Option ℕ) (t : Name) → KeyOf t b → (k : ℕ) → k < 4294967296 → same t (made_name k) ≡ true → IsUpTo (ord_max (option_cmp nat_cmp) a b) k
max_key a None t x k l e = let z = sym (x.exact k l) ∙ e in absurd (cc)
max_key a (Some m) t x k l e =
    let q : k ≡ m = eqb-true k m (sym (x.exact k l) ∙ e) in
    rw q (max_new a m)
