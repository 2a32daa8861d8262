-- Every item that is read has digits for digits, and no more of them stand after its point than the word has bytes. Assumes nothing.
use Rattle.std.specs.Prelude.{None, Option, Some}
use Prim.Native.Nat.{ℕ, suc, ◌≤◌, zero-le, suc-le-suc}
use native.Mathlib.Nat.{le_refl, le-suc, le_trans}
use mathlib.Core.Path.{◌≡◌, refl, sym, subst}
use mathlib.Core.Bool.{Bool, true, false, ◌||◌, cond}
use mathlib.Core.List.{List, [], ◌∷◌, ◌++◌}
use lib.ListN.{length}
use lib.Dec.{T, eqb}
use lib.Ieee.Fits.{and_i, and_l, and_r}
use Rattle.decimal.specs.Grammar.{TypedItem, is_digit, is_e, unsigned, negative, leading_digits, after_digits, power, scaled, plain, pointed, signed, item_of}
use Rattle.decimal.specs.Means.{all_digits}

-- an item of a word of n bytes, if there is one
unfoldable pub Good : ℕ → Option TypedItem → Type 0
Good n None = Unit {0}
Good n (Some i) = T (all_digits i.digits) × (i.decimals ≤ n)

digits_all : (t : List ℕ) → T (all_digits (leading_digits t))
unfolding leading_digits all_digits
digits_all [] = tt
digits_all (b ∷ t) = go (is_digit b) refl (digits_all t)
  where
    go : (q : Bool) → is_digit b ≡ q → T (all_digits (leading_digits t)) → T (all_digits (cond q (b ∷ leading_digits t) []))
    go true e h = and_i (is_digit b) (all_digits (leading_digits t)) (subst T (sym e) tt) h
    go false e h = tt

all_append : (ds es : List ℕ) → T (all_digits ds) → T (all_digits es) → T (all_digits (ds ++ es))
unfolding all_digits
all_append [] es p q = q
all_append (d ∷ ds) es p q = and_i (is_digit d) (all_digits (ds ++ es)) (and_l (is_digit d) (all_digits ds) p) (all_append ds es (and_r (is_digit d) (all_digits ds) p) q)

digits_short : (t : List ℕ) → length (leading_digits t) ≤ length t
unfolding leading_digits
digits_short [] = le_refl 0
digits_short (b ∷ t) = go (is_digit b) (digits_short t)
  where
    go : (q : Bool) → length (leading_digits t) ≤ length t → length (cond q (b ∷ leading_digits t) []) ≤ suc (length t)
    go true h = suc-le-suc h
    go false h = zero-le

past_short : (t : List ℕ) → length (after_digits t) ≤ length t
unfolding after_digits
past_short [] = le_refl 0
past_short (b ∷ t) = go (is_digit b) (past_short t)
  where
    go : (q : Bool) → length (after_digits t) ≤ length t → length (cond q (after_digits t) (b ∷ t)) ≤ suc (length t)
    go true h = le_trans h (le-suc (length t))
    go false h = le_refl (suc (length t))

unsigned_short : (t : List ℕ) → length (unsigned t) ≤ length t
unfolding unsigned
unsigned_short [] = le_refl 0
unsigned_short (b ∷ t) = go (eqb b 43 || eqb b 45)
  where
    go : (q : Bool) → length (cond q t (b ∷ t)) ≤ suc (length t)
    go true = le-suc (length t)
    go false = le_refl (suc (length t))

module _ (n : ℕ) (m : Bool) (ds : List ℕ) (k : ℕ) (p : T (all_digits ds)) (q : k ≤ n) where
  good_power : (l : Bool) (es rest : List ℕ) → Good n (power m ds k l es rest)
  unfolding power Good
  good_power l [] rest = tt
  good_power l (e ∷ es) [] = (p, q)
  good_power l (e ∷ es) (b ∷ t) = tt

  good_scaled : (rest : List ℕ) → Good n (scaled m ds k rest)
  unfolding scaled Good
  good_scaled [] = (p, q)
  good_scaled (b ∷ t) = go (is_e b)
    where
      go : (q : Bool) → Good n (cond q (power m ds k (negative t) (leading_digits (unsigned t)) (after_digits (unsigned t))) None)
      go true = good_power (negative t) (leading_digits (unsigned t)) (after_digits (unsigned t))
      go false = tt

good_plain : (n : ℕ) (m : Bool) (ds rest : List ℕ) → T (all_digits ds) → Good n (plain m ds rest)
unfolding plain Good
good_plain n m [] rest p = tt
good_plain n m (d ∷ ds) rest p = good_scaled n m (d ∷ ds) 0 p zero-le rest

good_pointed : (n : ℕ) (m : Bool) (ds fs rest : List ℕ) → T (all_digits ds) → T (all_digits fs) → length fs ≤ n → Good n (pointed m ds fs rest)
unfolding pointed Good
good_pointed n m ds [] rest p q h = tt
good_pointed n m ds (f ∷ fs) rest p q h = good_scaled n m (ds ++ (f ∷ fs)) (length (f ∷ fs)) (all_append ds (f ∷ fs) p q) h rest

good_signed : (n : ℕ) (m : Bool) (ds rest : List ℕ) → T (all_digits ds) → length rest ≤ n → Good n (signed m ds rest)
unfolding signed Good
good_signed n m ds [] p h = good_plain n m ds [] p
good_signed n m ds (b ∷ t) p h = go (eqb b 46)
  where
    go : (q : Bool) → Good n (cond q (pointed m ds (leading_digits t) (after_digits t)) (plain m ds (b ∷ t)))
    go true = good_pointed n m ds (leading_digits t) (after_digits t) p (digits_all t) (le_trans (digits_short t) (le_trans (le-suc (length t)) h))
    go false = good_plain n m ds (b ∷ t) p

pub good_number : (w : List ℕ) → Good (length w) (item_of w)
unfolding item_of
good_number w =
    good_signed (length w) (negative w) (leading_digits (unsigned w)) (after_digits (unsigned w)) (digits_all (unsigned w)) (le_trans (past_short (unsigned w)) (unsigned_short w))
