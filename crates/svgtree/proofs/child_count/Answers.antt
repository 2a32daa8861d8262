-- The search goes past children alone (`children_found`). Assumes nothing.
use Rattle.std.proofs.Common.{rules, tests, arith, ◌≡◌, ℕ, ◌+◌, ◌-◌, ap, ◌∙◌}
use Rattle.std.proofs.lemmas.Iterator.{first_from_Range}
use Rattle.svgtree.specs.Readers.{child_nodes}
use Rattle.svgtree.specs.Parse.{count_of, node_at, nodes_from}
use Rattle.svgtree.proofs.Following.{children_found}
use Rattle.svgtree.proofs.child_count.Goals as goal

pub returns : goal.returns
returns c =
    let s = c.args.bytes.now in
    let i = c.args.i in
    let n = c.node_count.result - i - 1 in
    let e : n ≡ count_of s - (i + 1) = omega arith in
    let found = children_found s (i + 1) n _
    (first_from_Range _ _ _ _ (λ k. (node_at s (i + 1 + k)).depth ≡ 1 → ⊥) (λ k. (node_at s (i + 1 + k)).depth ≡ 1) c.find.ensures.ran (λ x q k. search (rules, tests)) (λ x q k. search (rules, tests))) in
    record {
      nodes = rw c.unwrap_or.ensures (found.0 ∙ ap (λ (k : ℕ). child_nodes (nodes_from s (i + 1) k)) e);
      within = omega (arith, found.1, c.unwrap_or.ensures, e);
    }
