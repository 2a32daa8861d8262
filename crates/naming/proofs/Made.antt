-- Made names: their numbers rise, so no two are the same, and none is an earlier child's own result. So "the earlier child it was made for" is one child.
-- Assumes nothing.
use Rattle.std.specs.Prelude.{None, Option, Some, slice_get}
use mathlib.Core.Path.{◌≡◌, refl, sym, ap, ◌∙◌}
use mathlib.Core.Bool.{true, ◌||◌}
use mathlib.Core.List.{List, [], ◌∷◌, ◌++◌, append-nil}
use Prim.Native.Nat.{ℕ, zero, suc, ◌+◌, ◌≤◌, ◌<◌}
use native.Mathlib.Omega.{arith}
use lib.ListN.{length, take}
use lib.Seq.{append_snoc}
use Rattle.bits.specs.Bytes.{same}
use Rattle.bits.proofs.Sameness.{same_refl}
use Rattle.tree.specs.Input.{Name}
use Rattle.naming.specs.Names.{member, made_name, Label, Own, Made, own_names, Results, start, next_free, label, after, after_all, labels}
use Rattle.std.proofs.Math.Bool.{or-true, or_assoc}
use Rattle.std.proofs.lemmas.Bool.{both_ways}
use Rattle.naming.proofs.Naming.{made_injective, free_is_free, free_at_least}

-- the labels of children after a state, from the first on
labels_from : Results → List (Option Name) → List Label
labels_from st [] = []
labels_from st (o ∷ os) = label st o ∷ labels_from (after st o) os

labels_from_lem : (os : List (Option Name)) (st : Results) → (after_all st os).labels ≡ st.labels ++ labels_from st os
unfolding after_all labels_from
labels_from_lem [] st = sym (append-nil st.labels)
labels_from_lem (o ∷ os) st = labels_from_lem os (after st o) ∙ append_snoc st.labels (label st o) (labels_from (after st o) os)

take_from : (os : List (Option Name)) (st : Results) (k : ℕ) → take k (labels_from st os) ≡ labels_from st (take k os)
unfolding labels_from
take_from os st zero = refl
take_from [] st (suc k) = refl
take_from (o ∷ os) st (suc k) = ap {B = List Label} (λ l. label st o ∷ l) (take_from os (after st o) k)

-- the labels of the first k children go by these children alone
pub labels_take : (os : List (Option Name)) (k : ℕ) → take k (labels os) ≡ labels (take k os)
unfolding labels_from
labels_take os k = rw (labels_from_lem os start, labels_from_lem (take k os) start) (take_from os start k)

next_rises : (st : Results) (o : Option Name) → st.idx + 1 ≤ (after st o).idx
next_rises st None = omega (arith, free_at_least (own_names st.labels) st.idx)
next_rises st (Some t) = omega arith

at_least : (os : List (Option Name)) (st : Results) (j b : ℕ) → slice_get (labels_from st os) j ≡ Some (Made b) → st.idx ≤ b
unfolding labels_from
at_least [] st j b e = cc
at_least (None ∷ os) st zero b e = let q : next_free st ≡ b = cc in omega (arith, free_at_least (own_names st.labels) st.idx)
at_least (Some t ∷ os) st zero b e = cc
at_least (o ∷ os) st (suc j) b e = omega (arith, at_least os (after st o) j b e, next_rises st o)

rises_from : (os : List (Option Name)) (st : Results) (i j a b : ℕ) → i < j
    → slice_get (labels_from st os) i ≡ Some (Made a) → slice_get (labels_from st os) j ≡ Some (Made b) → a < b
unfolding labels_from
rises_from [] st i j a b h p q = cc
rises_from (o ∷ os) st i zero a b h p q = absurd (omega arith)
rises_from (None ∷ os) st zero (suc j) a b h p q = let r : next_free st ≡ a = cc in omega (arith, at_least os (after st None) j b q)
rises_from (Some t ∷ os) st zero (suc j) a b h p q = cc
rises_from (o ∷ os) st (suc i) (suc j) a b h p q = rises_from os (after st o) i j a b (omega arith) p q

-- explicit names, one label more

pub member_append : (t : Name) (xs ys : List Name) → member t (xs ++ ys) ≡ (member t xs || member t ys)
unfolding member
member_append t [] ys = refl
member_append t (x ∷ xs) ys = rw (member_append t xs ys) (sym (or_assoc (same t x) (member t xs) (member t ys)))

-- they are no more than the labels
pub own_few : (ls : List Label) → length (own_names ls) ≤ length ls
unfolding own_names
own_few [] = omega arith
own_few (Own t ∷ ls) = omega (arith, own_few ls)
own_few (Made k ∷ ls) = omega (arith, own_few ls)

pub own_append : (xs ys : List Label) → own_names (xs ++ ys) ≡ own_names xs ++ own_names ys
unfolding own_names
own_append [] ys = refl
own_append (Own t ∷ xs) ys = ap {B = List Name} (λ l. t ∷ l) (own_append xs ys)
own_append (Made k ∷ xs) ys = own_append xs ys

still_named : (t : Name) (xs ys : List Label) → member t (own_names xs) ≡ true → member t (own_names (xs ++ ys)) ≡ true
still_named t xs ys e = rw (own_append xs ys, member_append t (own_names xs) (own_names ys), e)

now_named : (t : Name) (xs : List Label) → member t (own_names (xs ++ (Own t ∷ []))) ≡ true
unfolding member own_names
now_named t xs = rw (own_append xs (Own t ∷ []), member_append t (own_names xs) (t ∷ []), same_refl t) (or-true (member t (own_names xs)))

not_named : (os : List (Option Name)) (st : Results) (j m : ℕ) (t : Name) → member t (own_names st.labels) ≡ true
    → slice_get (labels_from st os) j ≡ Some (Made m) → made_name m ≡ t → ⊥
unfolding labels_from
not_named [] st j m t s e q = cc
not_named (None ∷ os) st zero m t s e q =
    let r : next_free st ≡ m = cc in
    both_ways (member t (own_names st.labels)) (rw (← q, ← r) (free_is_free (own_names st.labels) st.idx)) s
not_named (Some u ∷ os) st zero m t s e q = cc
not_named (o ∷ os) st (suc j) m t s e q = not_named os (after st o) j m t (still_named t st.labels (label st o ∷ []) s) e q

not_own_from : (os : List (Option Name)) (st : Results) (i j m : ℕ) (t : Name) → i < j
    → slice_get (labels_from st os) i ≡ Some (Own t) → slice_get (labels_from st os) j ≡ Some (Made m) → made_name m ≡ t → ⊥
unfolding labels_from
not_own_from [] st i j m t h p q e = cc
not_own_from (o ∷ os) st i zero m t h p q e = omega arith
not_own_from (None ∷ os) st zero (suc j) m t h p q e = cc
not_own_from (Some u ∷ os) st zero (suc j) m t h p q e =
    let r : u ≡ t = cc in
    not_named os (after st (Some u)) j m t (rw r (now_named t st.labels)) q e
not_own_from (o ∷ os) st (suc i) (suc j) m t h p q e = not_own_from os (after st o) i j m t (omega arith) p q e

-- made numbers rise
pub made_rise : (os : List (Option Name)) (i j a b : ℕ) → i < j → slice_get (labels os) i ≡ Some (Made a) → slice_get (labels os) j ≡ Some (Made b) → a < b
made_rise os i j a b h p q = rises_from os start i j a b h (rw (labels_from_lem os start) at p) (rw (labels_from_lem os start) at q)

-- so made names are distinct
pub made_distinct : (os : List (Option Name)) (i j a b : ℕ) → i < j → slice_get (labels os) i ≡ Some (Made a) → slice_get (labels os) j ≡ Some (Made b)
    → made_name a ≡ made_name b → ⊥
made_distinct os i j a b h p q e =
    let l : a < b = made_rise os i j a b h p q in
    let s : a ≡ b = made_injective a b e in
    omega arith

-- and a made name is no earlier child's own result
pub made_not_own : (os : List (Option Name)) (i j m : ℕ) (t : Name) → i < j → slice_get (labels os) i ≡ Some (Own t) → slice_get (labels os) j ≡ Some (Made m)
    → made_name m ≡ t → ⊥
made_not_own os i j m t h p q e = not_own_from os start i j m t h (rw (labels_from_lem os start) at p) (rw (labels_from_lem os start) at q) e
