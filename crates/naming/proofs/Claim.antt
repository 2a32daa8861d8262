-- The claim: at every input of every list, `lookup` of what `resolve` writes is what `rule` says. What makes the two agree is `Newest`: of the children so
-- far, the newest that is called t is the newest whose own result t is, or else the one that t was made for. Assumes nothing.
use Rattle.std.specs.Prelude.{None, Option, Some, option_map, unwrap_or}
use mathlib.Core.Path.{◌≡◌, refl, sym, ap, ◌∙◌}
use mathlib.Core.Bool.{Bool, true, false, cond, ◌||◌}
use mathlib.Core.List.{List, [], ◌∷◌, ◌++◌, map, append-nil, map-append}
use Prim.Native.Nat.{ℕ, zero, suc, ◌<◌}
use native.Mathlib.Omega.{arith}
use lib.ListN.{length, get_or, take, length-map}
use lib.Seq.{append_snoc}
use Rattle.std.proofs.lemmas.Bool.{both_ways, or_parts}
use Rattle.std.proofs.lemmas.List.{get_or-map}
use Rattle.bits.specs.Bytes.{same}
use Rattle.bits.proofs.Sameness.{same_refl, same_eq}
use Rattle.tree.specs.Input.{Name, SourceGraphic, SourceAlpha, Reference}
use Rattle.naming.specs.Names.{member, made_name, Label, Own, Made, name_of, own_names, Results, start, names_so_far, next_free, label, after, after_all}
use Rattle.naming.specs.Inputs.{w_source_graphic, w_source_alpha, unsupported_inputs, parse_in, last_of, previous, settled, resolve}
use Rattle.naming.specs.Agreement.{ChildNames, InputImage, graphic, alpha, nth, later, last_with, lookup, reserved, is_own, is_made, directly, rule, owns, result_names, inputs_at, written_at, Agrees, or_else, called}
use Rattle.naming.specs.Written.{record_names_from, all_record_names}
use Rattle.naming.proofs.Naming.{free_is_free}

-- `last_with`

later_cond : (b : Bool) (n : ℕ) (o : Option ℕ) (d : Bool) → later (cond b (Some n) o) d ≡ cond b (Some (suc n)) (later o d)
later_cond true n o d = refl
later_cond false n o d = refl

last_snoc : {A : Type 0} (p : A → Bool) (xs : List A) (y : A) → last_with p (xs ++ (y ∷ [])) ≡ cond (p y) (Some (length xs)) (last_with p xs)
unfolding last_with
last_snoc p [] y = refl
last_snoc p (x ∷ xs) y = rw (last_snoc p xs y) (later_cond (p y) (length xs) (last_with p xs) (p x))

-- the name of the last record finds the last record
last_found : (n : Name) (ns : List Name) → last_with (same (last_of n ns)) (n ∷ ns) ≡ Some (length ns)
unfolding last_with
last_found n [] = rw same_refl
last_found n (m ∷ ms) = rw (last_found m ms)

-- a name that `member` finds `last_with` finds, and no other

absent : (t : Name) (ns : List Name) → member t ns ≡ false → last_with (same t) ns ≡ None
unfolding last_with member
absent t [] e = refl
absent t (n ∷ ns) e = let p = or_parts (same t n) (member t ns) e in rw (absent t ns p.1, p.0)

found_cons : (b : Bool) (o : Option ℕ) (m : Bool) → (m ≡ true → (k : ℕ) × (o ≡ Some k)) → b || m ≡ true → (k : ℕ) × (later o b ≡ Some k)
found_cons true None m t e = (0, refl)
found_cons true (Some k) m t e = (suc k, refl)
found_cons false o m t e = let q = t e in (suc q.0, rw q.1)

present : (t : Name) (ns : List Name) → member t ns ≡ true → (k : ℕ) × (last_with (same t) ns ≡ Some k)
unfolding last_with member
present t [] e = absurd (both_ways false refl e)
present t (n ∷ ns) e = found_cons (same t n) (last_with (same t) ns) (member t ns) (present t ns) e

own_absent : (t : Name) (ls : List Label) → member t (own_names ls) ≡ false → last_with (is_own t) ls ≡ None
unfolding last_with member own_names
own_absent t [] e = refl
own_absent t (Own u ∷ ls) e = let p = or_parts (same t u) (member t (own_names ls)) e in rw (own_absent t ls p.1, p.0)
own_absent t (Made k ∷ ls) e = rw (own_absent t ls e)

-- The reserved words: `parse_in` and the rule read the same ones

data Read (t : Name) : Type 0 where
  r_graphic : parse_in t ≡ SourceGraphic → reserved t ≡ Some graphic → Read t
  r_alpha : parse_in t ≡ SourceAlpha → reserved t ≡ Some alpha → Read t
  r_name : parse_in t ≡ Reference t → reserved t ≡ None → Read t

read : (t : Name) → Read t
unfolding parse_in member
read t = go (same t w_source_graphic) refl (same t w_source_alpha) refl (member t unsupported_inputs) refl
  where
    go : (a : Bool) → same t w_source_graphic ≡ a → (b : Bool) → same t w_source_alpha ≡ b → (c : Bool) → member t unsupported_inputs ≡ c → Read t
    go true p true q c r = let z : ◌≡◌ {A = ℕ} 71 65 = cc (same_eq t w_source_graphic p, same_eq t w_source_alpha q) in absurd (omega arith)
    go true p false q c r = r_graphic (rw p) (rw (q, p))
    go false p true q c r = r_alpha (rw (p, q)) (rw q)
    go false p false q true r = r_graphic (rw (p, q, r)) (rw (q, p, r))
    go false p false q false r = r_name (rw (p, q, r)) (rw (q, p, r))

-- a text that is read as a reference is read as itself
pub read_name : (t u : Name) → parse_in t ≡ Reference u → parse_in t ≡ Reference t
read_name t u e = go (read t)
  where
    go : Read t → parse_in t ≡ Reference t
    go (r_graphic p q) = cc
    go (r_alpha p q) = cc
    go (r_name p q) = p

-- The newest of a name

abbrev Newest : List Label → Type 0
Newest ls = (t : Name) → last_with (same t) (map name_of ls) ≡ called t ls

newest_start : Newest []
unfolding last_with
newest_start t = refl

pub map_snoc : {A B : Type 0} (f : A → B) (xs : List A) (y : A) → map f (xs ++ (y ∷ [])) ≡ map f xs ++ (f y ∷ [])
map_snoc f xs y = map-append f xs (y ∷ [])

-- the names after one more label
names_snoc : (t : Name) (ls : List Label) (l : Label)
    → last_with (same t) (map name_of (ls ++ (l ∷ []))) ≡ cond (same t (name_of l)) (Some (length ls)) (last_with (same t) (map name_of ls))
names_snoc t ls l = rw (map_snoc name_of ls l, last_snoc (same t) (map name_of ls) (name_of l), length-map ls name_of)

newest_after : (st : Results) (o : Option Name) → Newest st.labels → Newest (after st o).labels
newest_after st (Some u) g t = rw (names_snoc t ls (Own u), last_snoc (is_own t) ls (Own u), last_snoc (is_made t) ls (Own u)) (go (same t u))
  where
    ls : List Label
    ls = st.labels

    go : (b : Bool) → cond b (Some (length ls)) (last_with (same t) (map name_of ls)) ≡ or_else (cond b (Some (length ls)) (last_with (is_own t) ls)) (last_with (is_made t) ls)
    go true = refl
    go false = g t
newest_after st None g t = rw (names_snoc t ls (Made k), last_snoc (is_own t) ls (Made k), last_snoc (is_made t) ls (Made k)) (go (same t (made_name k)) refl)
  where
    ls : List Label
    ls = st.labels

    k : ℕ
    k = next_free st

    go : (b : Bool) → same t (made_name k) ≡ b
        → cond b (Some (length ls)) (last_with (same t) (map name_of ls)) ≡ or_else (last_with (is_own t) ls) (cond b (Some (length ls)) (last_with (is_made t) ls))
    go true e =
        let m : member t (own_names ls) ≡ false = rw (same_eq t (made_name k) e) (free_is_free (own_names ls) st.idx) in
        rw (own_absent t ls m)
    go false e = g t

-- One input

directly_found : (ls : List Label) → lookup (map name_of ls) (previous (map name_of ls)) ≡ Some (directly ls)
unfolding lookup
directly_found [] = refl
directly_found (l ∷ ls) =
    let last : last_with (same (last_of (name_of l) (map name_of ls))) (map name_of (l ∷ ls)) ≡ Some (length ls) = rw (last_found (name_of l) (map name_of ls), length-map ls name_of) in
    ap (option_map nth) last

one_input : (ls : List Label) → Newest ls → (x : Option Name) → lookup (map name_of ls) (resolve (map name_of ls) x) ≡ Some (rule ls x)
unfolding resolve rule lookup
one_input ls g None = directly_found ls
one_input ls g (Some t) = go (read t)
  where
    ns : List Name
    ns = map name_of ls

    by_name : InputImage
    by_name = unwrap_or (option_map nth (called t ls)) (directly ls)

    named : (b : Bool) → member t ns ≡ b → lookup ns (cond b (Reference t) (previous ns)) ≡ Some by_name
    named true m =
        let f = present t ns m in
        let q : called t ls ≡ Some f.0 = sym (g t) ∙ f.1 in
        rw (f.1, q)
    named false m =
        let q : called t ls ≡ None = sym (g t) ∙ absent t ns m in
        rw q (directly_found ls)

    go : Read t → lookup ns (settled ns (parse_in t)) ≡ Some (unwrap_or (reserved t) by_name)
    go (r_graphic p q) = rw (p, q)
    go (r_alpha p q) = rw (p, q)
    go (r_name p q) = rw (p, q) (named (member t ns) refl)

-- The list

agree_from : (cs : List ChildNames) (st : Results) → Newest st.labels → (i : ℕ) → i < length cs → (j : ℕ) → j < length (inputs_at cs i)
    → lookup (names_so_far st ++ result_names (take i (record_names_from st cs))) (get_or (written_at (record_names_from st cs) i) j SourceGraphic)
    ≡ Some (rule (after_all st (owns (take i cs))).labels (get_or (inputs_at cs i) j None))
unfolding record_names_from after_all
agree_from [] st g i h j k = absurd (omega arith)
agree_from (c ∷ cs) st g zero h j k = rw (append-nil (names_so_far st), get_or-map (resolve (names_so_far st)) c.inputs j None SourceGraphic k) (one_input st.labels g (get_or c.inputs j None))
agree_from (c ∷ cs) st g (suc i) h j k =
    rw (
      ← append_snoc (names_so_far st) (name_of (label st c.own)) (result_names (take i (record_names_from (after st c.own) cs))),
      ← map_snoc name_of st.labels (label st c.own),
    )
    (agree_from cs (after st c.own) (newest_after st c.own g) i (omega arith) j k)

length_list : (cs : List ChildNames) (st : Results) → length (record_names_from st cs) ≡ length cs
unfolding record_names_from
length_list [] st = refl
length_list (c ∷ cs) st = ap suc (length_list cs (after st c.own))

length_inputs : (cs : List ChildNames) (st : Results) (i : ℕ) → i < length cs → length (written_at (record_names_from st cs) i) ≡ length (inputs_at cs i)
unfolding record_names_from
length_inputs [] st i h = absurd (omega arith)
length_inputs (c ∷ cs) st zero h = length-map c.inputs (resolve (names_so_far st))
length_inputs (c ∷ cs) st (suc i) h = length_inputs cs (after st c.own) i (omega arith)

-- for every list of children, every child and every input
pub claim : (cs : List ChildNames) → Agrees cs (all_record_names cs)
claim cs = record { one_each = length_list cs start; inputs_each = length_inputs cs start; agree = agree_from cs start newest_start }
