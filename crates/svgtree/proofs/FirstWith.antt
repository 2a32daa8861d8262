-- Laws on the first attribute with an id: what a search finds, and what it is among those passed, or else among those that are left. Assumes nothing.
use Prim.Native.Nat.{ℕ}
use mathlib.Core.Path.{◌≡◌, refl, ap, sym, ◌∙◌}
use mathlib.Core.Bool.{Bool, true, false, cond}
use mathlib.Core.List.{List, [], ◌∷◌, map}
use lib.Dec.{eqb}
use borrow.Author.Tests.{eq-eqb, ne_eqb}
use Rattle.std.specs.Prelude.{Option, Some, None, find}
use Rattle.std.specs.Option.{option_or, option_map}
use Rattle.std.proofs.lemmas.Iterator.Adapters.{option_map_id}
use Rattle.svgtree.specs.declared.Found.{Found}
use Rattle.svgtree.specs.declared.attributes.Attribute.{Attribute}
use Rattle.svgtree.specs.Values.{Value}
use Rattle.svgtree.specs.Readers.{value_under}
use Rattle.svgtree.specs.Means.{found_is}
use Rattle.svgtree.specs.Parse.{node_from}
use Rattle.svgtree.specs.Listed.{value_of, attribute_of, read_of}
use Rattle.svgtree.proofs.Listed.{node_says}

-- the value under an id among attributes
abbrev pub lookup : List ℕ → ℕ → List Attribute → Value
lookup s id xs = value_under id (map (attribute_of s) xs)

-- the value that was found, or else this one
abbrev pub found_or : List ℕ → Option Found → Value → Value
found_or s None v = v
found_or s (Some f) v = value_of s f

-- the first attribute of a node with an id is the one found, or else the first among those that are left
abbrev pub Passed : (s : List ℕ) (at wanted : ℕ) → Option Found → List Attribute → Type 0
Passed s at wanted found left = value_under wanted (node_from s at).attributes ≡ found_or s found (lookup s wanted left)

module _ (s : List ℕ) (wanted : ℕ) where
  -- none is passed at first
  pub begun : (at : ℕ) → value_under wanted (node_from s at).attributes ≡ lookup s wanted (read_of s at)
  begun at = sym (ap (value_under wanted) (node_says s at))

  -- one attribute more, with the id or another
  pub turn_here : (found : Option Found) (a : Attribute) (rest : List Attribute) → a.id ≡ wanted
      → found_or s found (lookup s wanted (a ∷ rest)) ≡ found_or s (option_or found (Some a.value)) (lookup s wanted rest)
  unfolding value_under
  turn_here (Some f) a rest e = refl
  turn_here None a rest e = rw (eq-eqb a.id wanted e)

  pub turn_other : (found : Option Found) (a : Attribute) (rest : List Attribute) → (a.id ≡ wanted → ⊥)
      → found_or s found (lookup s wanted (a ∷ rest)) ≡ found_or s found (lookup s wanted rest)
  unfolding value_under
  turn_other (Some f) a rest e = refl
  turn_other None a rest e = rw (ne_eqb a.id wanted e)

  pub ended : (found : Option Found) → found_or s found (lookup s wanted []) ≡ found_is s found
  unfolding value_under
  ended None = refl
  ended (Some f) = refl

  -- what a search for an id finds
  pub searched : (xs : List Attribute) → lookup s wanted xs ≡ found_is s (option_map (λ a. a.value) (find (λ a. eqb a.id wanted) xs))
  unfolding value_under
  searched [] = refl
  searched (a ∷ rest) = go (eqb a.id wanted) (searched rest)
    where
      go : (b : Bool) → lookup s wanted rest ≡ found_is s (option_map (λ a. a.value) (find (λ a. eqb a.id wanted) rest))
          → cond b (value_of s a.value) (lookup s wanted rest) ≡ found_is s (option_map (λ a. a.value) (cond b (Some a) (find (λ a. eqb a.id wanted) rest)))
      go true e = refl
      go false e = e

  -- and among a node's
  pub found_of : (at : ℕ) (r : Option Attribute) → option_map (λ a. a) r ≡ find (λ a. eqb a.id wanted) (read_of s at)
      → found_is s (option_map (λ a. a.value) r) ≡ value_under wanted (node_from s at).attributes
  found_of at r e = sym (begun at ∙ searched (read_of s at) ∙ ap (λ (o : Option Attribute). found_is s (option_map (λ a. a.value) o)) (sym e ∙ option_map_id r))

-- a walk's turns, and its beginning and end
pub ruleset firsts = (begun, turn_here, turn_other, ended)
