-- Laws on the chain: a node goes by its depth, tag and region, only its element refuses it, and the chain goes node by node. Assumes nothing.
use Rattle.std.specs.Prelude.{None, Option, Some}
use mathlib.Core.Path.{◌≡◌, refl, ap, ◌∙◌}
use mathlib.Core.Bool.{Bool, true, false, cond}
use mathlib.Core.List.{List, [], ◌∷◌}
use Prim.Native.Nat.{ℕ, ◌+◌, ◌-◌, ◌<◌}
use native.Mathlib.Omega.{arith}
use lib.Dec.{eqb}
use borrow.Author.Tests.{ne_eqb}
use Rattle.answer.specs.declared.Refusal.{Refusal}
use Rattle.geom.specs.declared.Rect.{Rect}
use Rattle.svgtree.specs.Values.{Node}
use Rattle.svgtree.specs.Readers.{child_nodes}
use Rattle.svgtree.specs.Parse.{count_of, node_at, nodes_from}
use Rattle.svgtree.proofs.Following.{nodes_none, nodes_step}
use Rattle.units.proofs.Lengths.{zero_one}
use Rattle.region.specs.declared.Frame.{Frame}
use Rattle.subregion.specs.Subregions.{region_of}
use Rattle.elements.specs.Elements.{ElementKind, made, no_primitive, kind_of}
use Rattle.elements.specs.Elements as element
use Rattle.chain.specs.Chain.{Step, pass, refused, kept, follow, kind_step, region_step, step_of, chain}
use Rattle.chain.specs.Means.{step_at, chain_from}

module _ (frame : Frame) (n : Node) (rest : List Node) where
  pub step_depth : n.depth ≡ 1 → step_of frame n rest ≡ pass
  unfolding step_of
  step_depth e = rw e refl

  pub step_tagless : (n.depth ≡ 1 → ⊥) → n.tag ≡ 0 → step_of frame n rest ≡ pass
  unfolding step_of
  step_tagless d e = rw (ne_eqb n.depth 1 d, e) refl

  pub step_region : (n.depth ≡ 1 → ⊥) → (n.tag ≡ 0 → ⊥) → step_of frame n rest ≡ region_step frame n (child_nodes rest) (region_of frame n)
  unfolding step_of
  step_region d e = rw (ne_eqb n.depth 1 d, ne_eqb n.tag 0 e) refl

-- ---- a node is refused by its element alone, never by its subregion
module _ (frame : Frame) (n : Node) (why : Refusal) where
  not_passed : (b : Bool) (x : Step) → cond b pass x ≡ refused why → x ≡ refused why
  not_passed true x e = let z : ◌≡◌ {A = ℕ} 0 1 = cc in absurd (zero_one z)
  not_passed false x e = e

  by_kind : (r : Rect) (m : ElementKind) → kind_step n r m ≡ refused why → m ≡ element.refused why
  by_kind r (made k) e = let z : ◌≡◌ {A = ℕ} 0 1 = cc in absurd (zero_one z)
  by_kind r no_primitive e = let z : ◌≡◌ {A = ℕ} 0 1 = cc in absurd (zero_one z)
  by_kind r (element.refused w) e = cc

  by_region : (children : List Node) (m : Option Rect) → region_step frame n children m ≡ refused why → kind_of frame n children ≡ element.refused why
  by_region children (Some r) e = by_kind r (kind_of frame n children) e
  by_region children None e = let z : ◌≡◌ {A = ℕ} 0 1 = cc in absurd (zero_one z)

  pub refused_by_kind : (rest : List Node) → step_of frame n rest ≡ refused why → kind_of frame n (child_nodes rest) ≡ element.refused why
  unfolding step_of
  refused_by_kind rest e = by_region (child_nodes rest) (region_of frame n) (not_passed (eqb n.tag 0) _ (not_passed (eqb n.depth 1) _ e))

module _ (frame : Frame) (s : List ℕ) (i : ℕ) where
  chain_step : i < count_of s → chain_from frame s i ≡ follow (step_at frame s i) (chain_from frame s (i + 1))
  unfolding chain
  chain_step h =
      let k : count_of s - i - 1 ≡ count_of s - (i + 1) = omega arith in
      let p : nodes_from s i (count_of s - i) ≡ node_at s i ∷ nodes_from s (i + 1) (count_of s - (i + 1)) =
      nodes_step s i (count_of s - i) (omega arith) ∙ ap (λ (m : ℕ). node_at s i ∷ nodes_from s (i + 1) m) k in
      ap (chain frame) p

  -- a chain that has come to node i goes on as that node's step says
  pub chain_goes : {x : Step} (start : ℕ) → i < count_of s → chain_from frame s start ≡ chain_from frame s i → step_at frame s i ≡ x
      → chain_from frame s start ≡ follow x (chain_from frame s (i + 1))
  chain_goes start h p e = p ∙ chain_step h ∙ ap (λ (x : Step). follow x (chain_from frame s (i + 1))) e

  pub chain_end : i ≡ count_of s → chain_from frame s i ≡ kept []
  unfolding chain
  chain_end e = ap (chain frame) (nodes_none s i (count_of s - i) (omega arith))
