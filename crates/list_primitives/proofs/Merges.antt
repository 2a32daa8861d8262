-- The inputs of a merge, one node after the other. Assumes nothing.
use mathlib.Core.Path.{◌≡◌, refl, sym, ◌∙◌}
use mathlib.Core.List.{List, [], ◌∷◌, ◌++◌, map, append-nil, append_assoc}
use Prim.Native.Nat.{ℕ, zero, suc, ◌+◌, ◌≤◌, ◌<◌}
use native.Mathlib.Nat.{zero-add}
use lib.ListN.{length, length-map, length-append}
use native.Mathlib.Omega.{arith}
use Rattle.std.specs.List.{fold, sum_by, range_with_len}
use Rattle.tree.specs.List.{input_run}
use Rattle.svgtree.specs.Parse.{node_at, nodes_from}
use Rattle.svgtree.proofs.Following.{nodes_length, nodes_more}
use Rattle.child.specs.Child.{in_of}
use Rattle.naming.proofs.Claim.{map_snoc}
use Rattle.list_primitives.specs.Tables.{input_bytes_at}
use Rattle.list_primitives.proofs.Growing.{room}

run_snoc : {A : Type 0} (f : A → List ℕ) (inputs : List A) (i : A) → input_run f (inputs ++ (i ∷ [])) ≡ input_run f inputs ++ f i
unfolding input_run
run_snoc f [] i = append-nil (f i)
run_snoc f (x ∷ xs) i = rw (run_snoc f xs i) (sym (append_assoc (f x) (input_run f xs) (f i)))

-- as many inputs as nodes
pub inputs_long : (s : List ℕ) (i k : ℕ) → length (map in_of (nodes_from s i k)) ≡ k
inputs_long s i k = length-map (nodes_from s i k) in_of ∙ nodes_length s i k

-- the bytes of node i's input, and how many they are
module _ (s entries : List ℕ) where
  abbrev pub input_of_node : ℕ → List ℕ
  input_of_node i = input_bytes_at s entries (in_of (node_at s i))

  abbrev pub length_of_node : ℕ → ℕ
  length_of_node i = length (input_of_node i)

  lengths : (sum i n : ℕ) → fold (λ (a k : ℕ). a + length_of_node k) sum (range_with_len i n) ≡ sum + length (input_run (input_bytes_at s entries) (map in_of (nodes_from s i n)))
  unfolding nodes_from input_run
  lengths sum i zero = omega arith
  lengths sum i (suc n) =
      let rest = input_run (input_bytes_at s entries) (map in_of (nodes_from s (i + 1) n)) in
      lengths (sum + length_of_node i) (i + 1) n ∙ omega (arith, length-append (input_of_node i) rest)

  -- as long as all inputs of a run
  pub merge_sum : (i n : ℕ) → sum_by length_of_node (range_with_len i n) ≡ length (input_run (input_bytes_at s entries) (map in_of (nodes_from s i n)))
  merge_sum i n = lengths 0 i n ∙ zero-add _

module _ (s entries : List ℕ) (first : ℕ) where
  -- the bytes of the first j inputs, and of the next
  abbrev pub merge_up_to : ℕ → List ℕ
  merge_up_to j = input_run (input_bytes_at s entries) (map in_of (nodes_from s first j))

  abbrev pub merge_next : ℕ → List ℕ
  merge_next j = input_bytes_at s entries (in_of (node_at s (first + j)))

  pub merge_step : (j : ℕ) → merge_up_to (j + 1) ≡ merge_up_to j ++ merge_next j
  merge_step j =
      rw (nodes_more s first j, map_snoc in_of (nodes_from s first j))
      (run_snoc (input_bytes_at s entries) (map in_of (nodes_from s first j)) (in_of (node_at s (first + j))))

  pub merge_none : merge_up_to 0 ≡ []
  unfolding nodes_from input_run
  merge_none = refl

  pub merge_room : (j n : ℕ) → j < n → length (merge_up_to j) + length (merge_next j) ≤ length (merge_up_to n)
  merge_room = room merge_up_to merge_next merge_step

pub ruleset merging = (merge_none, merge_step, merge_room)
