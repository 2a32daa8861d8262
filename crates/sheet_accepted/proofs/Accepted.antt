-- The nodes of an accepted sheet are accepted nodes, and so are the nodes behind one of them and its children. Assumes nothing.
use Rattle.std.proofs.lemmas.Bool.{or_parts}
use Rattle.std.specs.Prelude.{Err, Ok}
use Prim.Native.Nat.{ℕ, zero, suc, ◌+◌, ◌≤◌, ◌<◌}
use native.Mathlib.Nat.{add-zero}
use native.Mathlib.Omega.{arith}
use mathlib.Core.Path.{◌≡◌, refl, sym, subst}
use mathlib.Core.Bool.{Bool, true, false, not, cond}
use mathlib.Core.List.{List, [], ◌∷◌}
use lib.Dec.{T, ltb, eqb}
use lib.ListN.{length, get_or}
use lib.Ieee.Fits.{and_l, and_r}
use borrow.Author.Tests.{ltb-false}
use Rattle.answer.specs.declared.Refusal.TheVariants.{TooLarge, Malformed, BadNumber, Image, OutsideGrammar, OutsideLimits}
use Rattle.num.specs.Numbers.{Each}
use Rattle.sheet_fields.specs.Fields.{header_pairs}
use Rattle.svgtree.specs.Values.{Node}
use Rattle.svgtree.specs.Readers.{child_nodes}
use Rattle.svgtree.specs.Parse.{places_of, count_of, offset_of, node_at, nodes_from, header_of, sheet_of}
use Rattle.svgtree.proofs.Following.{nodes_length}
use Rattle.field_tests.specs.Tests.{all}
use Rattle.sheet_layout.specs.Records.{node_record_at, node_records_from}
use Rattle.sheet_layout.specs.Layout.{node_record_ok, layout_ok}
use Rattle.sheet_layout.proofs.Offsets.{records_ok}
use Rattle.sheet_check.specs.Numbers.{node_numbers_ok, header_numbers_ok, numbers_ok}
use Rattle.sheet_check.specs.Texts.{grammar_ok, limits_ok}
use Rattle.sheet_check.specs.Refusals.{no_image, too_large, first_refusal}
use Rattle.sheet_accepted.specs.Nodes.{EachAccepted, AcceptedNodes}
use Rattle.sheet_accepted.proofs.Texts.{ReadTextAt, texts_read}
use Rattle.sheet_accepted.proofs.Layouts.{record_fit}
use Rattle.sheet_accepted.proofs.Opacities.{node_opacity}

-- ---- the tests that an accepted sheet has passed

pub record Passed (s : List ℕ) : Type 0 where
  pub small : too_large s ≡ false
  pub layout : T (layout_ok s)
  pub grammar : T (grammar_ok s)
  pub limits : T (limits_ok s)
  pub numbers : T (numbers_ok (sheet_of s))

pub passed : (s : List ℕ) → first_refusal s ≡ (Ok (tt {0})) → Passed s
unfolding first_refusal
passed s h =
    go (ltb (length s) header_pairs) (too_large s) (layout_ok s) (grammar_ok s) (limits_ok s) (numbers_ok (sheet_of s)) (no_image (sheet_of s)) refl refl refl refl refl h
  where
    go : (a b c g l d e : Bool) → too_large s ≡ b → layout_ok s ≡ c → grammar_ok s ≡ g → limits_ok s ≡ l → numbers_ok (sheet_of s) ≡ d
        → cond a (Err Malformed)
        (cond b (Err TooLarge)
        (cond (not c) (Err Malformed)
        (cond (not g) (Err OutsideGrammar)
        (cond (not l) (Err OutsideLimits)
        (cond (not d) (Err BadNumber)
        (cond (not e) (Err Image) (Ok (tt {0})))))))) ≡ (Ok (tt {0})) → Passed s
    go true b c g l d e p q u v r h = cc
    go false true c g l d e p q u v r h = cc
    go false false false g l d e p q u v r h = cc
    go false false true false l d e p q u v r h = cc
    go false false true true false d e p q u v r h = cc
    go false false true true true false e p q u v r h = cc
    go false false true true true true e p q u v r h = record { small = p; layout = rw q tt; grammar = rw u tt; limits = rw v tt; numbers = rw r tt }

-- "sheet over 65,536 bytes, or node count over 512" is refused
module _ (s : List ℕ) (h : first_refusal s ≡ (Ok (tt {0}))) where
  pub short_sheet : length s ≤ 65536
  unfolding too_large
  short_sheet = ltb-false 65536 (length s) (or_parts (ltb 65536 (length s)) (ltb 512 (count_of s)) (passed s h).small).0

  pub few_nodes : count_of s ≤ 512
  unfolding too_large
  few_nodes = ltb-false 512 (count_of s) (or_parts (ltb 65536 (length s)) (ltb 512 (count_of s)) (passed s h).small).1

nodes_passed : (s : List ℕ) → T (numbers_ok (sheet_of s)) → T (all node_numbers_ok (nodes_from s 0 (count_of s)))
unfolding numbers_ok sheet_of
nodes_passed s h = and_r (header_numbers_ok (header_of s)) (all node_numbers_ok (nodes_from s 0 (count_of s))) h

-- ---- the nodes

module _ (s : List ℕ) (bytes : (i : ℕ) → get_or s i 0 < 256) where
  each_accepted : (i n : ℕ) → T (all node_record_ok (node_records_from s i n)) → ((k : ℕ) → k < n → Each (ReadTextAt s) (places_of s (offset_of s (i + k)))) → T (all node_numbers_ok (nodes_from s i n))
      → EachAccepted (nodes_from s i n)
  unfolding all node_records_from nodes_from
  each_accepted i zero h r k = tt
  each_accepted i (suc n) h r k =
      let z : i + 0 ≡ i = add-zero i in
      let records = all node_record_ok (node_records_from s (i + 1) n) in
      let nodes = all node_numbers_ok (nodes_from s (i + 1) n) in (
        record {
          value = record_fit s bytes i (and_l (node_record_ok (node_record_at s i)) records h) (subst (λ (j : ℕ). Each (ReadTextAt s) (places_of s (offset_of s j))) z (r 0 (omega arith)));
          opacity = node_opacity (node_at s i) (and_l (node_numbers_ok (node_at s i)) nodes k);
        },
        each_accepted (i + 1) n (and_r (node_record_ok (node_record_at s i)) records h)
            (λ j l. let e : i + suc j ≡ i + 1 + j = omega arith in subst (λ (m : ℕ). Each (ReadTextAt s) (places_of s (offset_of s m))) e (r (suc j) (omega arith)))
            (and_r (node_numbers_ok (node_at s i)) nodes k),
      )

  pub accepted_nodes : first_refusal s ≡ (Ok (tt {0})) → AcceptedNodes (sheet_of s).nodes
  unfolding sheet_of
  accepted_nodes h =
      let p = passed s h in
      record {
        few = subst (λ (n : ℕ). n ≤ 512) (sym (nodes_length s 0 (count_of s))) (few_nodes s h);
        each =
            each_accepted 0 (count_of s) (records_ok s p.layout)
            (λ k l. let z : k ≡ 0 + k = omega arith in subst (λ (m : ℕ). Each (ReadTextAt s) (places_of s (offset_of s m))) z (texts_read s p.grammar p.limits k l))
            (nodes_passed s p.numbers);
      }

-- ---- the nodes behind a node, and its children, which are the first of these

pub accepted_rest : (n : Node) (rest : List Node) → AcceptedNodes (n ∷ rest) → AcceptedNodes rest
accepted_rest n rest h = record { few = omega (arith, h.few); each = h.each.1 }

pub children_accepted : (ns : List Node) → EachAccepted ns → EachAccepted (child_nodes ns)
unfolding child_nodes
children_accepted [] h = tt
children_accepted (n ∷ ns) h = go (eqb n.depth 1) (children_accepted ns h.1)
  where
    go : (b : Bool) → EachAccepted (child_nodes ns) → EachAccepted (cond b (n ∷ child_nodes ns) [])
    go true k = (h.0, k)
    go false k = tt

pub children_few : (ns : List Node) → length (child_nodes ns) ≤ length ns
unfolding child_nodes
children_few [] = omega arith
children_few (n ∷ ns) = go (eqb n.depth 1) (children_few ns)
  where
    go : (b : Bool) → length (child_nodes ns) ≤ length ns → length (cond b (n ∷ child_nodes ns) []) ≤ length (n ∷ ns)
    go true k = omega arith
    go false k = omega arith
