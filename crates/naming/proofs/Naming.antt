-- Laws on made names: digits are injective, and so are made names; the search for a free number ends within the names, at the first free one.
-- Assumes nothing.
use mathlib.Core.Path.{◌≡◌, refl, sym, ap, ◌∙◌}
use mathlib.Core.Bool.{Bool, true, false, cond, ◌||◌}
use mathlib.Core.List.{List, [], ◌∷◌, ◌++◌}
use Prim.Native.Nat.{ℕ, zero, suc, ◌+◌, ◌*◌, ◌-◌, ◌/◌, ◌%◌, ◌≤◌, ◌<◌}
use native.Mathlib.Omega.{arith}
use borrow.Author.Tests.{eqb-true, eqb-false, ltb-true, ltb-false}
use lib.Dec.{eqb, ltb}
use lib.ListN.{length}
use Rattle.bits.specs.Bytes.{same}
use Rattle.tree.specs.Input.{Name}
use Rattle.naming.specs.Names.{member, digits, digits_up_to, made_name, first_free, first_free_up_to}
use Rattle.bits.proofs.Sameness.{same_eq}
use Rattle.std.proofs.lemmas.Bool.{both_ways}
use Rattle.naming.proofs.Words.{same_ne}

-- what digits say: read from the left
value_from : ℕ → List ℕ → ℕ
value_from a [] = a
value_from a (d ∷ ds) = value_from (a * 10 + (d - 48)) ds

value_snoc : (a : ℕ) (ds : List ℕ) (d : ℕ) → value_from a (ds ++ (d ∷ [])) ≡ value_from a ds * 10 + (d - 48)
unfolding value_from
value_snoc a [] d = refl
value_snoc a (x ∷ xs) d = value_snoc (a * 10 + (x - 48)) xs d

value_digits : (f n : ℕ) → n ≤ f → value_from 0 (digits_up_to f n) ≡ n
unfolding value_from digits_up_to
value_digits zero n h = omega arith
value_digits (suc f) n h = go (ltb n 10) refl (value_digits f (n / 10))
  where
    go : (b : Bool) → ltb n 10 ≡ b → (n / 10 ≤ f → value_from 0 (digits_up_to f (n / 10)) ≡ n / 10)
        → value_from 0 (cond b ((48 + n) ∷ []) (digits_up_to f (n / 10) ++ ((48 + n % 10) ∷ []))) ≡ n
    go true e ih = omega arith
    go false e ih =
        let l : 10 ≤ n = ltb-false n 10 e in
        let v : value_from 0 (digits_up_to f (n / 10)) ≡ n / 10 = ih (omega arith) in
        value_snoc 0 (digits_up_to f (n / 10)) (48 + n % 10) ∙ omega arith

pub digits_injective : (m n : ℕ) → digits m ≡ digits n → m ≡ n
unfolding digits
digits_injective m n e = sym (value_digits m m (omega arith)) ∙ ap (value_from 0) e ∙ value_digits n n (omega arith)

pub made_injective : (m n : ℕ) → made_name m ≡ made_name n → m ≡ n
unfolding made_name
made_injective m n e = digits_injective m n (cc)

-- The search for a free number

keep_if : Bool → Name → List Name → List Name
keep_if true y ys = ys
keep_if false y ys = y ∷ ys

-- the list without x
without : Name → List Name → List Name
without x [] = []
without x (y ∷ ys) = keep_if (same x y) y (without x ys)

-- taking x out hides nothing else
without_other : (x t : Name) (l : List Name) → same t x ≡ false → member t (without x l) ≡ member t l
unfolding without member keep_if
without_other x t [] h = refl
without_other x t (y ∷ ys) h = go (same x y) refl (without_other x t ys h)
  where
    go : (b : Bool) → same x y ≡ b → member t (without x ys) ≡ member t ys
        → member t (keep_if b y (without x ys)) ≡ same t y || member t ys
    go true e ih = let q : x ≡ y = same_eq x y e in ih ∙ (rw (← q, h))
    go false e ih = rw ih

without_shorter : (x : Name) (l : List Name) → length (without x l) ≤ length l
unfolding without keep_if
without_shorter x [] = omega arith
without_shorter x (y ∷ ys) = go (same x y) (without_shorter x ys)
  where
    go : (b : Bool) → length (without x ys) ≤ length ys → length (keep_if b y (without x ys)) ≤ suc (length ys)
    go true h = omega arith
    go false h = omega arith

without_less : (x : Name) (l : List Name) → member x l ≡ true → length (without x l) < length l
unfolding without member keep_if
without_less x [] h = cc
without_less x (y ∷ ys) h = go (same x y) h (without_less x ys)
  where
    go : (b : Bool) → b || member x ys ≡ true → (member x ys ≡ true → length (without x ys) < length ys)
        → length (keep_if b y (without x ys)) < suc (length ys)
    go true e ih = omega (arith, without_shorter x ys)
    go false e ih = omega (arith, ih e)

free_from : (f : ℕ) (ns : List Name) (k : ℕ) → k ≤ first_free_up_to f ns k
unfolding first_free_up_to
free_from zero ns k = omega arith
free_from (suc f) ns k = go (member (made_name k) ns) (free_from f ns (k + 1))
  where
    go : (b : Bool) → k + 1 ≤ first_free_up_to f ns (k + 1) → k ≤ cond b (first_free_up_to f ns (k + 1)) k
    go true h = omega arith
    go false h = omega arith

-- what lies behind the search does not bear on it
free_without : (f : ℕ) (ns : List Name) (k j : ℕ) → j < k → first_free_up_to f ns k ≡ first_free_up_to f (without (made_name j) ns) k
unfolding first_free_up_to
free_without zero ns k j h = refl
free_without (suc f) ns k j h =
    let m : member (made_name k) (without (made_name j) ns) ≡ member (made_name k) ns
    = without_other (made_name j) (made_name k) ns (same_ne (made_name k) (made_name j) (λ e. let q : k ≡ j = made_injective k j e in omega arith)) in
    let ih : first_free_up_to f ns (k + 1) ≡ first_free_up_to f (without (made_name j) ns) (k + 1) = free_without f ns (k + 1) j (omega arith) in
    rw (m, ih)

-- with a fuel of the list's length the search ends at a free number
free_enough : (f : ℕ) (ns : List Name) (k : ℕ) → length ns ≤ f → member (made_name (first_free_up_to f ns k)) ns ≡ false
unfolding first_free_up_to member
free_enough zero [] k h = refl
free_enough zero (x ∷ xs) k h = absurd (omega arith)
free_enough (suc f) ns k h = go (member (made_name k) ns) refl (free_enough f (without (made_name k) ns) (k + 1))
  where
    W : List Name
    W = without (made_name k) ns

    go : (b : Bool) → member (made_name k) ns ≡ b → (length W ≤ f → member (made_name (first_free_up_to f W (k + 1))) W ≡ false)
        → member (made_name (cond b (first_free_up_to f ns (k + 1)) k)) ns ≡ false
    go false e ih = e
    go true e ih =
        let l : length W < length ns = without_less (made_name k) ns e in
        let q : first_free_up_to f ns (k + 1) ≡ first_free_up_to f W (k + 1) = free_without f ns (k + 1) k (omega arith) in
        let far : k + 1 ≤ first_free_up_to f W (k + 1) = free_from f W (k + 1) in
        let other : same (made_name (first_free_up_to f W (k + 1))) (made_name k) ≡ false
        = same_ne _ _ (λ e'. let i : first_free_up_to f W (k + 1) ≡ k = made_injective _ _ e' in omega arith) in
        rw q (sym (without_other (made_name k) (made_name (first_free_up_to f W (k + 1))) ns other) ∙ ih (omega arith))

pub free_is_free : (ns : List Name) (k : ℕ) → member (made_name (first_free ns k)) ns ≡ false
unfolding first_free
free_is_free ns k = free_enough (length ns) ns k (omega arith)

pub free_at_least : (ns : List Name) (k : ℕ) → k ≤ first_free ns k
unfolding first_free
free_at_least ns k = free_from (length ns) ns k

-- each number passed on the way is taken
free_passed : (f : ℕ) (ns : List Name) (k j : ℕ) → k ≤ j → j < first_free_up_to f ns k → member (made_name j) ns ≡ true
unfolding first_free_up_to
free_passed zero ns k j lo hi = absurd (omega arith)
free_passed (suc f) ns k j lo hi = go (member (made_name k) ns) refl (eqb k j) refl (free_passed f ns (k + 1) j) hi
  where
    go : (b : Bool) → member (made_name k) ns ≡ b → (d : Bool) → eqb k j ≡ d
        → (k + 1 ≤ j → j < first_free_up_to f ns (k + 1) → member (made_name j) ns ≡ true)
        → j < cond b (first_free_up_to f ns (k + 1)) k → member (made_name j) ns ≡ true
    go false e d q ih h = absurd (omega arith)
    go true e true q ih h = let p : k ≡ j = eqb-true k j q in rw (← p) e
    go true e false q ih h = ih (omega (arith, eqb-false k j q)) h

free_near : (f : ℕ) (ns : List Name) (k : ℕ) → first_free_up_to f ns k ≤ k + f
unfolding first_free_up_to
free_near zero ns k = omega arith
free_near (suc f) ns k = go (member (made_name k) ns) (free_near f ns (k + 1))
  where
    go : (b : Bool) → first_free_up_to f ns (k + 1) ≤ k + 1 + f → cond b (first_free_up_to f ns (k + 1)) k ≤ k + suc f
    go true h = omega arith
    go false h = omega arith

pub free_at_most : (ns : List Name) (k : ℕ) → first_free ns k ≤ k + length ns
unfolding first_free
free_at_most ns k = free_near (length ns) ns k

-- each number that is skipped is one of an explicit name
pub free_skips : (ns : List Name) (k j : ℕ) → k ≤ j → j < first_free ns k → member (made_name j) ns ≡ true
unfolding first_free
free_skips ns k j lo hi = free_passed (length ns) ns k j lo hi

-- The loop that counts k up from `from` while k is taken: k stays at most the free number, goes on while it is less, and stops at it

pub free_go : (ns : List Name) (from k : ℕ) → k ≤ first_free ns from → member (made_name k) ns ≡ true → k < first_free ns from
free_go ns from k h m = go (eqb k (first_free ns from)) refl
  where
    go : (b : Bool) → eqb k (first_free ns from) ≡ b → k < first_free ns from
    go true e = let q : k ≡ first_free ns from = eqb-true k (first_free ns from) e in absurd (both_ways _ (free_is_free ns from) (rw q at m))
    go false e = omega (arith, eqb-false k (first_free ns from) e)

pub free_stop : (ns : List Name) (from k : ℕ) → from ≤ k → k ≤ first_free ns from → member (made_name k) ns ≡ false → first_free ns from ≡ k
free_stop ns from k lo hi m = go (ltb k (first_free ns from)) refl
  where
    go : (b : Bool) → ltb k (first_free ns from) ≡ b → first_free ns from ≡ k
    go true e = absurd (both_ways _ m (free_skips ns from k lo (ltb-true k (first_free ns from) e)))
    go false e = omega (arith, ltb-false k (first_free ns from) e)
