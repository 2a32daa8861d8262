-- Laws on a node's attributes as the code gives them: the first and those behind it, and what they say. Assumes nothing.
use Prim.Native.Nat.{ℕ, suc, ◌-◌, ◌<◌}
use native.Mathlib.Omega.{arith}
use mathlib.Core.Path.{◌≡◌, ap}
use mathlib.Core.List.{List, [], ◌∷◌, map, map-map}
use Rattle.svgtree.specs.Parse.{next_place, attribute_at, places_from, node_from}
use Rattle.svgtree.specs.Listed.{attribute_of, read_at, read_from, read_of}

module _ (s : List ℕ) (at n : ℕ) where
  pub read_none : n ≡ 0 → read_from s at n ≡ []
  unfolding read_from places_from
  read_none e = ap (λ (k : ℕ). read_from s at k) e

  pub read_step : 0 < n → read_from s at n ≡ read_at s at ∷ read_from s (next_place s at) (n - 1)
  unfolding read_from places_from
  read_step h =
      let e : n ≡ suc (n - 1) = omega arith in
      ap (λ (k : ℕ). read_from s at k) e

-- what they say
pub read_says : (s : List ℕ) (at n : ℕ) → map (attribute_of s) (read_from s at n) ≡ map (attribute_at s) (places_from s at n)
unfolding read_from attribute_at
read_says s at n = map-map (attribute_of s) (read_at s) (places_from s at n)

pub node_says : (s : List ℕ) (at : ℕ) → map (attribute_of s) (read_of s at) ≡ (node_from s at).attributes
unfolding node_from
node_says s at = read_says s _ _

-- the first attribute and those behind it
pub ruleset listed = (read_none, read_step)
