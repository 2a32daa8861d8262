-- The functions of feComponentTransfer, child after child: what one child changes, and that looking at the children one by one gives what
-- the specification says of all of them. Assumes nothing.
use Rattle.std.specs.Prelude.{None, Option, Some}
use Rattle.std.specs.Iterator.{Drains, YieldsFirst}
use Rattle.std.specs.List.{FoldsTo}
use Rattle.std.proofs.lemmas.Iterator.Consumers.{YieldsList-from_first}
use Rattle.std.proofs.lemmas.Fn.{fold_over}
use denote.Param.Members.{Mut, Called}
use denote.Ref.{Bor}
use Prim.Native.Nat.{ℕ, zero, suc, ◌+◌}
use mathlib.Core.Path.{◌≡◌, refl, sym, ap, subst, ◌∙◌}
use mathlib.Core.Bool.{Bool, true, false, cond}
use mathlib.Core.List.{List, [], ◌∷◌, ◌++◌, map, map-append, append_assoc}
use lib.Dec.{eqb}
use Rattle.names.specs.Ids.{eid_fe_func_r, eid_fe_func_g, eid_fe_func_b, eid_fe_func_a}
use Rattle.svgtree.specs.Values.{Node}
use Rattle.svgtree.specs.declared.SvgNode.{SvgNode}
use Rattle.svgtree.specs.Nodes.{node_of, handles_from}
use Rattle.tree.specs.Kinds as spec
use Rattle.tree.specs.Means.{transfer_function_is, component_transfer_is}
use Rattle.tree.specs.declared.TransferFunction.{TransferFunction}
use Rattle.tree.specs.declared.ComponentTransfer.{ComponentTransfer}
use Rattle.fe_color.specs.ComponentTransfer.{transfer_function_of, wanted, functions_of, last_or, transfer_from}
use Rattle.fe_color.specs.Means.{assigned}

-- four equal functions make equal fields
fields : (a b c d e f g h : spec.TransferFunction) → a ≡ e → b ≡ f → c ≡ g → d ≡ h
    → ◌≡◌ {A = spec.ComponentTransferFields} (record { func_r = a; func_g = b; func_b = c; func_a = d }) (record { func_r = e; func_g = f; func_b = g; func_a = h })
fields a b c d e f g h p q r s = rw (p, q, r, s)

-- one child
module _ (s : List ℕ) (v : ComponentTransfer) (n : Node) where
  yes_one : (f d : TransferFunction) (b : Bool) (o : Option spec.TransferFunction) → o ≡ Some (transfer_function_is s f)
      → transfer_function_is s (cond b f d) ≡ last_or (transfer_function_is s d) (wanted b o ++ [])
  unfolding last_or
  yes_one f d true o e = rw e
  yes_one f d false o e = refl

  no_one : (d : spec.TransferFunction) (b : Bool) (o : Option spec.TransferFunction) → o ≡ None → d ≡ last_or d (wanted b o ++ [])
  unfolding last_or
  no_one d true o e = rw e
  no_one d false o e = refl

  pub child_yes : (f : TransferFunction) → transfer_function_of n ≡ Some (transfer_function_is s f)
      → component_transfer_is s (assigned v n.tag f) ≡ transfer_from (component_transfer_is s v) (n ∷ [])
  unfolding functions_of assigned
  child_yes f e =
      fields _ _ _ _ _ _ _ _
      (yes_one f v.func_r (eqb n.tag eid_fe_func_r) (transfer_function_of n) e)
      (yes_one f v.func_g (eqb n.tag eid_fe_func_g) (transfer_function_of n) e)
      (yes_one f v.func_b (eqb n.tag eid_fe_func_b) (transfer_function_of n) e)
      (yes_one f v.func_a (eqb n.tag eid_fe_func_a) (transfer_function_of n) e)

  pub child_no : transfer_function_of n ≡ None → component_transfer_is s v ≡ transfer_from (component_transfer_is s v) (n ∷ [])
  unfolding functions_of
  child_no e =
      fields _ _ _ _ _ _ _ _
      (no_one (transfer_function_is s v.func_r) (eqb n.tag eid_fe_func_r) (transfer_function_of n) e)
      (no_one (transfer_function_is s v.func_g) (eqb n.tag eid_fe_func_g) (transfer_function_of n) e)
      (no_one (transfer_function_is s v.func_b) (eqb n.tag eid_fe_func_b) (transfer_function_of n) e)
      (no_one (transfer_function_is s v.func_a) (eqb n.tag eid_fe_func_a) (transfer_function_of n) e)

-- the last of two lists joined
pub last_append : {A : Type 0} (d : A) (xs ys : List A) → last_or d (xs ++ ys) ≡ last_or (last_or d xs) ys
unfolding last_or
last_append d [] ys = refl
last_append d (x ∷ xs) ys = last_append x xs ys

functions_append : (tag : ℕ) (ns : List Node) (n : Node) → functions_of tag (ns ++ (n ∷ [])) ≡ functions_of tag ns ++ functions_of tag (n ∷ [])
unfolding functions_of
functions_append tag [] n = refl
functions_append tag (m ∷ ns) n =
    let xs = wanted (eqb m.tag tag) (transfer_function_of m) in
    ap (λ (l : List spec.TransferFunction). xs ++ l) (functions_append tag ns n) ∙ sym (append_assoc xs (functions_of tag ns) (functions_of tag (n ∷ [])))

last_more : (d : spec.TransferFunction) (tag : ℕ) (ns : List Node) (n : Node)
    → last_or (last_or d (functions_of tag ns)) (functions_of tag (n ∷ [])) ≡ last_or d (functions_of tag (ns ++ (n ∷ [])))
last_more d tag ns n = sym (ap (last_or d) (functions_append tag ns n) ∙ last_append d (functions_of tag ns) (functions_of tag (n ∷ [])))

-- one child more, at the end
transfer_more : (v : spec.ComponentTransferFields) (ns : List Node) (n : Node) → transfer_from (transfer_from v ns) (n ∷ []) ≡ transfer_from v (ns ++ (n ∷ []))
transfer_more v ns n =
    fields _ _ _ _ _ _ _ _
    (last_more v.func_r eid_fe_func_r ns n)
    (last_more v.func_g eid_fe_func_g ns n)
    (last_more v.func_b eid_fe_func_b ns n)
    (last_more v.func_a eid_fe_func_a ns n)

-- nodes of one sheet
abbrev pub OfSheet : Bor (List ℕ) → List SvgNode → Type 0
OfSheet bytes [] = Unit {0}
OfSheet bytes (n ∷ ns) = (n.bytes ≡ bytes) × OfSheet bytes ns

module _ (bytes : Bor (List ℕ)) where
  pub handles_in : (i n : ℕ) → OfSheet bytes (handles_from bytes i n)
  unfolding handles_from
  handles_in i zero = tt
  handles_in i (suc n) = (refl, handles_in (i + 1) n)

  -- of nodes and one more, each
  apart : (ns : List SvgNode) (n : SvgNode) → OfSheet bytes (ns ++ (n ∷ [])) → OfSheet bytes ns × (n.bytes ≡ bytes)
  apart [] n h = (tt, h.0)
  apart (m ∷ ns) n h = let r = apart ns n h.1 in ((h.0, r.0), r.1)

-- a fold over nodes whose closure looks at each
module _ {F : Type 0} {g : Mut F (ComponentTransfer × (SvgNode × Unit {0})) ComponentTransfer} (f : F) (bytes : Bor (List ℕ))
    (call : (v : ComponentTransfer) (n : SvgNode) (w : ComponentTransfer) (h : F) → Called g f (v, (n, tt)) w h
    → (component_transfer_is n.bytes.now w ≡ transfer_from (component_transfer_is n.bytes.now v) (node_of n ∷ [])) × (h ≡ f)) where
  pub fold_is : (v r : ComponentTransfer) (s ns : List SvgNode) → s ≡ ns → OfSheet bytes ns
      → (xs : List SvgNode) × (h : F) × Drains (YieldsFirst (λ (left : List SvgNode). left)) s xs × FoldsTo {P = F × ComponentTransfer} (λ p x q. Called g p.0 (p.1, (x, tt)) q.1 q.0) (f, v) xs (h, r)
      → component_transfer_is bytes.now r ≡ transfer_from (component_transfer_is bytes.now v) (map node_of ns)
  unfolding functions_of last_or
  fold_is v r s ns same in_sheet ran =
      let given = component_transfer_is bytes.now v in
      fold_over (YieldsFirst (λ (left : List SvgNode). left)) (λ (n : SvgNode). n) g (λ ys w. OfSheet bytes ys → component_transfer_is bytes.now w ≡ transfer_from given (map node_of ys)) f
      (λ ys a n b h e c.
      let d = call a n b h c in (
        λ o.
            let p = apart bytes ys n o in
            subst (λ (z : Bor (List ℕ)). component_transfer_is z.now b ≡ transfer_from (component_transfer_is z.now a) (node_of n ∷ [])) p.1 d.0
            ∙ ap (λ (x : spec.ComponentTransferFields). transfer_from x (node_of n ∷ [])) (e p.0)
            ∙ transfer_more given (map node_of ys) (node_of n)
            ∙ ap (transfer_from given) (sym (map-append node_of ys (n ∷ []))),
        d.1,
      ))
      s ns v r (YieldsList-from_first (λ (n : SvgNode). n) (λ (left : List SvgNode). left) ns same).runs (λ o. refl) ran in_sheet
