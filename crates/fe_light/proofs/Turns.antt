-- The light sources among nodes: the first node that is one, or none. Assumes nothing.
use Rattle.std.specs.Prelude.{None, Option, Some, MatchOption, IsTrue, slice_index_or}
use Rattle.std.specs.Option.{IfSome, IsSomeAnd, option_map}
use Rattle.std.specs.Iterator.{YieldsFirst}
use Rattle.std.specs.Iterator.Runs.{SomeRun, AllItemsGive, IsFirstToGive}
use Rattle.std.proofs.iter.Rest.{run_of_first}
use Rattle.std.proofs.lemmas.Option.{none-some}
use denote.Param.Members.{Mut, Called}
use mathlib.Core.Path.{◌≡◌, refl, subst}
use mathlib.Core.List.{List, [], ◌∷◌, map}
use lib.ListN.{length}
use Prim.Native.Nat.{ℕ, zero, suc, ◌+◌, ◌<◌}
use native.Mathlib.Omega.{arith}
use Rattle.tree.specs.declared.LightSource.{LightSource}
use Rattle.svgtree.specs.declared.SvgNode.{SvgNode}
use Rattle.svgtree.specs.Nodes.{node_of}
use Rattle.fe_light.specs.LightSource.{light_of, light_source_of}

-- node k of some is this light source, or none
abbrev pub Shines : List SvgNode → ℕ → Option LightSource → Type 0
Shines ns k o = (d : SvgNode) → o ≡ light_of (node_of (slice_index_or ns k d))

none_is : (ns : List SvgNode) → ((k : ℕ) → k < length ns → Shines ns k None) → None ≡ light_source_of (map node_of ns)
unfolding light_source_of
none_is [] h = refl
none_is (n ∷ ns) h = rw (← h 0 (omega arith) n) (none_is ns (λ k l. h (suc k) (omega arith)))

first_is : (ns : List SvgNode) (k : ℕ) (l : LightSource) → k < length ns → Shines ns k (Some l) → ((j : ℕ) → j < k → Shines ns j None) → Some l ≡ light_source_of (map node_of ns)
unfolding light_source_of
first_is [] k l h e d = absurd (omega arith)
first_is (n ∷ ns) zero l h e d = rw (← e n)
first_is (n ∷ ns) (suc k) l h e d = rw (← d 0 (omega arith) n) (first_is ns k l (omega arith) e (λ j b. d (suc j) (omega arith)))

-- what holds of an item that came, or of one if it came, holds of the node at its place
came : (P : SvgNode → Type 0) (o : Option SvgNode) (n : SvgNode) → option_map (λ y. y) o ≡ Some n → IsSomeAnd o P → P n
came P None n e h = absurd h
came P (Some x) n e h = let k : x ≡ n = cc in subst P k h

if_came : (P : SvgNode → Type 0) (o : Option SvgNode) (n : SvgNode) → option_map (λ y. y) o ≡ Some n → IfSome o P → P n
if_came P None n e h = absurd (none-some _ e)
if_came P (Some x) n e h = let k : x ≡ n = cc in subst P k h

-- a search over nodes whose closure reads each
module _ {F : Type 0} {g : Mut F (SvgNode × Unit {0}) (Option LightSource)} (f : F) (s ns : List SvgNode) (same : s ≡ ns)
    (call : (a : SvgNode × Unit {0}) (r : Option LightSource) (h : F) → Called g f a r h → (h ≡ f) × (r ≡ light_of (node_of a.0))) where
  pub search_is : (o : Option LightSource)
      → SomeRun (YieldsFirst (λ (left : List SvgNode). left)) s (λ p. MatchOption o (IsTrue p.whole × AllItemsGive p g f None) (λ y. (k : ℕ) × (k < p.len) × (p.len ≡ k + 1) × IsFirstToGive p g f (Some y) None k))
      → o ≡ light_source_of (map node_of ns)
  search_is None h =
      let c = rw same at (rw h.1 at (run_of_first (λ (left : List SvgNode). left) h.0).1) in
      let given = h.2.1 (λ a r q z. (call a r q z).0) in
      none_is ns (λ k l d. (call (slice_index_or ns k d, tt) None f (if_came (λ x. Called g f (x, tt) None f) (h.0.at k) _ (c.2 k d (omega (arith, c.1 h.2.0))) (given k))).1)
  search_is (Some l) h =
      let c = rw same at (rw h.1 at (run_of_first (λ (left : List SvgNode). left) h.0).1) in
      let given = h.2.3 (λ a r q z. (call a r q z).0) in
      let k = h.2.0 in
      first_is ns k l (omega (arith, h.2.1, c.0))
      (λ d. (call (slice_index_or ns k d, tt) (Some l) f (came (λ x. Called g f (x, tt) (Some l) f) (h.0.at k) _ (c.2 k d h.2.1) given.0)).1)
      (λ j b d. (call (slice_index_or ns j d, tt) None f (came (λ x. Called g f (x, tt) None f) (h.0.at j) _ (c.2 j d (omega (arith, h.2.1))) (given.1 j b))).1)
