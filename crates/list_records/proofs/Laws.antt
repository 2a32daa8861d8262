-- The tables record by record; and the law that for children that count, with their names, the records are those of their primitives. Assumes nothing.
use Rattle.std.specs.Prelude.{None, Option}
use mathlib.Core.Path.{◌≡◌, refl, sym, ap, ap₂, ◌∙◌}
use mathlib.Core.List.{List, [], ◌∷◌, ◌++◌, map, append-nil, append_assoc}
use Prim.Native.Nat.{ℕ, zero, suc, ◌+◌, ◌≤◌, ◌<◌}
use native.Mathlib.Numerals.{add-one}
use native.Mathlib.Omega.{arith}
use lib.ListN.{length, get_or, take, set, length-append, length-set}
use lib.Seq.{take-suc, take-suc-set, take-take, get_or-take, length-take-le}
use Rattle.std.proofs.lemmas.List.{take-map}
use Rattle.tree.specs.Input.{Name}
use Rattle.tree.specs.Kinds.{Primitive, map_kind}
use Rattle.tree.specs.List.{primitive_bytes, primitive_size, records_bytes}
use Rattle.child.specs.Child as value
use Rattle.child.specs.Means.{child_is}
use Rattle.child.specs.declared.Child.{Child}
use Rattle.region.specs.declared.Frame.{Frame}
use Rattle.naming.specs.Names.{Label, Results, start, name_of, label, after, after_all, results_of, labels}
use Rattle.naming.specs.Inputs.{resolve}
use Rattle.results.specs.Means.{Named, entry_is, label_is, labels_is}
use Rattle.results.specs.declared.ResultName.{ResultName}
use Rattle.results.specs.declared.FilterResults.{FilterResults}
use Rattle.naming.proofs.Claim.{map_snoc}
use Rattle.results.proofs.Tables.{named_first, named_at}
use Rattle.list_primitives.specs.Primitives.{primitive_of, primitives_from, primitives}
use Rattle.list_primitives.specs.NamesOnly.{owns_of}
use Rattle.list_primitives.specs.Tables.{primitive_at}
use Rattle.list_records.specs.Tables.{child_at, children_is, record_at, records_up_to, sizes_up_to, Measures}

own_at : (g : ℕ → value.Child) (l : List ℕ) (j : ℕ) → j < length l → get_or (owns_of (map g l)) j None ≡ (g (get_or l j 0)).own
own_at g [] j h = absurd (omega arith)
own_at g (x ∷ xs) zero h = refl
own_at g (x ∷ xs) (suc j) h = own_at g xs j (omega arith)

-- a child under a label, with the labels of the records before it
abbrev built_of : value.Child → Label → List Label → Primitive
built_of c l ls =
    record {
      rect = c.rect;
      color_interpolation = c.color_interpolation;
      result = name_of l;
      kind = map_kind (resolve (map name_of ls)) c.kind;
    }

-- one record more, at the end

primitives_snoc : (st : Results) (cs : List value.Child) (c : value.Child)
    → primitives_from st (cs ++ (c ∷ [])) ≡ primitives_from st cs ++ (primitive_of (after_all st (owns_of cs)) c ∷ [])
unfolding primitives_from after_all
primitives_snoc st [] c = refl
primitives_snoc st (d ∷ ds) c = ap (λ (l : List Primitive). primitive_of st d ∷ l) (primitives_snoc (after st d.own) ds c)

records_snoc : (ps : List Primitive) (p : Primitive) → records_bytes (ps ++ (p ∷ [])) ≡ records_bytes ps ++ primitive_bytes p
unfolding records_bytes
records_snoc [] p = append-nil (primitive_bytes p)
records_snoc (q ∷ qs) p = rw (records_snoc qs p) (sym (append_assoc (primitive_bytes q) (records_bytes qs) (primitive_bytes p)))

module _ (frame : Frame) (s nodes names : List ℕ) where
  -- the bytes of the next record
  abbrev pub record_next : ℕ → List ℕ
  record_next j = primitive_bytes (record_at frame s names (get_or nodes j 0) j)

  pub records_step : (j : ℕ) → records_up_to frame s nodes names (j + 1) ≡ records_up_to frame s nodes names j ++ record_next j
  unfolding records_up_to
  records_step j = rw (add-one j)

  pub records_none : records_up_to frame s nodes names 0 ≡ []
  unfolding records_up_to
  records_none = refl

  sizes_step : (j : ℕ) → sizes_up_to frame s nodes names (j + 1) ≡ sizes_up_to frame s nodes names j ++ (length (record_next j) ∷ [])
  unfolding sizes_up_to
  sizes_step j = rw (add-one j)

  -- one more entry of the table of sizes
  size_set : (sizes : List ℕ) (j v : ℕ) → j < length sizes → take j sizes ≡ sizes_up_to frame s nodes names j → v ≡ length (record_next j)
      → take (j + 1) (set sizes j v) ≡ sizes_up_to frame s nodes names (j + 1)
  size_set sizes j v h e q = rw (add-one j) (take-suc-set sizes j v h ∙ ap₂ (λ (l : List ℕ) (k : ℕ). l ++ (k ∷ [])) e q) ∙ sym (sizes_step j)

  total_step : (j : ℕ) → length (records_up_to frame s nodes names (j + 1)) ≡ length (records_up_to frame s nodes names j) + length (record_next j)
  total_step j = ap length (records_step j) ∙ length-append (records_up_to frame s nodes names j) (record_next j)

  -- a child that was read, under the name of record j
  pub same_record : (c : Child) (name : ResultName) (i j : ℕ) → child_is s c ≡ child_at frame s i → label_is s name ≡ entry_is s (get_or names j 0)
      → primitive_at s (take j names) name c ≡ record_at frame s names i j
  same_record c name i j e q = ap₂ (λ (x : value.Child) (l : Label). built_of x l (labels_is s names j)) e q

  children_suc : (j : ℕ) → j < length nodes → children_is frame s nodes (suc j) ≡ children_is frame s nodes j ++ (child_at frame s (get_or nodes j 0) ∷ [])
  children_suc j h = ap (map (child_at frame s)) (take-suc nodes j 0 h) ∙ map_snoc (child_at frame s) (take j nodes) (get_or nodes j 0)

  module _ (f : FilterResults) (n : ℕ) (long : n ≤ length nodes) (named : Named s names f (owns_of (children_is frame s nodes n))) (counted : f.count ≡ n) where
    owns_first : (j : ℕ) → j ≤ n → take j (owns_of (children_is frame s nodes n)) ≡ owns_of (children_is frame s nodes j)
    owns_first j h =
        take-map (λ (c : value.Child). c.own) j (children_is frame s nodes n)
        ∙ ap owns_of (take-map (child_at frame s) j (take n nodes) ∙ ap (map (child_at frame s)) (take-take j n nodes h))

    own_here : (j : ℕ) → j < n → get_or (owns_of (children_is frame s nodes n)) j None ≡ (child_at frame s (get_or nodes j 0)).own
    own_here j h =
        own_at (child_at frame s) (take n nodes) j (omega (arith, length-take-le n nodes long))
        ∙ ap (λ (i : ℕ). (child_at frame s i).own) (get_or-take n nodes j 0 h)

    -- record j is the primitive of its child
    record_is : (j : ℕ) → j < n
        → record_at frame s names (get_or nodes j 0) j ≡ primitive_of (results_of (owns_of (children_is frame s nodes j))) (child_at frame s (get_or nodes j 0))
    record_is j h =
        let c = child_at frame s (get_or nodes j 0) in
        let first = owns_first j (omega arith) in
        let called = named_at named j (omega arith)
        ∙ ap₂ (λ (os : List (Option Name)) (o : Option Name). label (results_of os) o) first (own_here j h) in
        let known = named_first named j (omega arith) ∙ ap labels first in
        ap₂ (λ (l : Label) (ls : List Label). built_of c l ls) called known

    pub records_are : (j : ℕ) → j ≤ n → records_up_to frame s nodes names j ≡ records_bytes (primitives (children_is frame s nodes j))
    unfolding records_up_to records_bytes primitives_from
    records_are zero h = refl
    records_are (suc j) h =
        let c = child_at frame s (get_or nodes j 0) in
        ap₂ ◌++◌ (records_are j (omega arith)) (ap primitive_bytes (record_is j (omega arith)))
        ∙ sym (records_snoc (primitives (children_is frame s nodes j)) (primitive_of (results_of (owns_of (children_is frame s nodes j))) c))
        ∙ ap records_bytes (sym (primitives_snoc start (children_is frame s nodes j) c) ∙ ap primitives (sym (children_suc j (omega arith))))

    pub sizes_are : (j : ℕ) → j ≤ n → sizes_up_to frame s nodes names j ≡ map primitive_size (primitives (children_is frame s nodes j))
    unfolding sizes_up_to primitives_from
    sizes_are zero h = refl
    sizes_are (suc j) h =
        let c = child_at frame s (get_or nodes j 0) in
        let p = primitive_of (results_of (owns_of (children_is frame s nodes j))) c in
        ap₂ (λ (l : List ℕ) (k : ℕ). l ++ (k ∷ [])) (sizes_are j (omega arith)) (ap primitive_size (record_is j (omega arith)))
        ∙ sym (map_snoc primitive_size (primitives (children_is frame s nodes j)) p)
        ∙ ap (map primitive_size) (sym (primitives_snoc start (children_is frame s nodes j) c) ∙ ap primitives (sym (children_suc j (omega arith))))

-- One record more, in tables that begin as they did

module _ (frame : Frame) (s nodes names nodes' names' : List ℕ) (n : ℕ) (p : take n nodes' ≡ take n nodes) (q : take n names' ≡ take n names) where
  node_kept : (j : ℕ) → j < n → get_or nodes' j 0 ≡ get_or nodes j 0
  node_kept j h = sym (get_or-take n nodes' j 0 h) ∙ ap (λ (l : List ℕ). get_or l j 0) p ∙ get_or-take n nodes j 0 h

  name_kept : (j : ℕ) → j < n → get_or names' j 0 ≡ get_or names j 0
  name_kept j h = sym (get_or-take n names' j 0 h) ∙ ap (λ (l : List ℕ). get_or l j 0) q ∙ get_or-take n names j 0 h

  labels_kept : (j : ℕ) → j ≤ n → labels_is s names' j ≡ labels_is s names j
  labels_kept j h = ap (map (entry_is s)) (sym (take-take j n names' h) ∙ ap (take j) q ∙ take-take j n names h)

  record_kept : (j : ℕ) → j < n → record_at frame s names' (get_or nodes' j 0) j ≡ record_at frame s names (get_or nodes j 0) j
  record_kept j h =
      ap (λ (i : ℕ). record_at frame s names' i j) (node_kept j h)
      ∙ ap₂ (λ (e : ℕ) (ls : List Label). built_of (child_at frame s (get_or nodes j 0)) (entry_is s e) ls) (name_kept j h) (labels_kept j (omega arith))

  records_kept : (j : ℕ) → j ≤ n → records_up_to frame s nodes' names' j ≡ records_up_to frame s nodes names j
  unfolding records_up_to
  records_kept zero h = refl
  records_kept (suc j) h = ap₂ ◌++◌ (records_kept j (omega arith)) (ap primitive_bytes (record_kept j (omega arith)))

  sizes_kept : (j : ℕ) → j ≤ n → sizes_up_to frame s nodes' names' j ≡ sizes_up_to frame s nodes names j
  unfolding sizes_up_to
  sizes_kept zero h = refl
  sizes_kept (suc j) h = ap₂ (λ (l : List ℕ) (k : ℕ). l ++ (k ∷ [])) (sizes_kept j (omega arith)) (ap primitive_size (record_kept j (omega arith)))

  pub measures_more : {sizes : List ℕ} {total v : ℕ} → n < 512 → Measures frame s nodes names sizes n total → v ≡ length (record_next frame s nodes' names' n) → v < 4194304
      → Measures frame s nodes' names' (set sizes n v) (n + 1) (total + v)
  measures_more {sizes} {total} {v} few m e small =
      record {
        sizes = size_set frame s nodes' names' sizes n v (omega (arith, m.long)) (m.sizes ∙ sym (sizes_kept n (omega arith))) e;
        total = omega (arith, m.total, e, ap length (records_kept n (omega arith)), total_step frame s nodes' names' n);
        small = omega (arith, m.small);
        long = length-set sizes n v ∙ m.long;
      }

pub measures_none : (frame : Frame) (s nodes names sizes : List ℕ) → length sizes ≡ 512 → Measures frame s nodes names sizes 0 0
unfolding records_up_to sizes_up_to
measures_none frame s nodes names sizes long = record { sizes = refl; total = refl; small = omega arith; long = long }

-- The first nodes and names of the tables, by themselves

pub records_first : (frame : Frame) (s nodes names : List ℕ) (n : ℕ) → n ≤ length nodes
    → records_up_to frame s (take n nodes) (take n names) (length (take n nodes)) ≡ records_up_to frame s nodes names n
records_first frame s nodes names n h =
    rw (length-take-le n nodes h)
    (records_kept frame s nodes names (take n nodes) (take n names) n (take-take n n nodes (omega arith)) (take-take n n names (omega arith)) n (omega arith))
