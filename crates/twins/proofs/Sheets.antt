-- Twins say the same: the bytes before the pairs and each node do. And their typed lists pass, those of s as the twins ask, and t has none. Assumes nothing.
use Prim.Native.Nat.{ℕ, zero, suc, ◌+◌, ◌≤◌, ◌<◌}
use native.Mathlib.Omega.{arith}
use mathlib.Core.Path.{◌≡◌, refl}
use mathlib.Core.Bool.{true}
use mathlib.Core.List.{List, [], ◌∷◌}
use lib.Dec.{T}
use Rattle.num.specs.Numbers.{Each}
use Rattle.num.proofs.Each.{each_append}
use Rattle.svgtree.specs.Parse.{places_of, count_of, offset_of, node_at, nodes_from, header_of, sheet_of}
use Rattle.field_tests.specs.Tests.{all}
use Rattle.sheet_layout.specs.Layout.{layout_ok}
use Rattle.sheet_layout.proofs.Offsets.{record_within}
use Rattle.sheet_check.specs.Texts.{texts_in, texts_from, typed_texts, text_in_grammar, text_in_limits, grammar_ok, limits_ok}
use Rattle.sheet_accepted.proofs.ByKind.{record_kinds}
use Rattle.sheet_accepted.proofs.Texts.{ReadText}
use Rattle.sheet_accepted.proofs.Values.{node_moved, count_moved, header_moved}
use Rattle.sheet_accepted.proofs.End.{nodes_same}
use Rattle.twins.specs.Twins.{Twins}
use Rattle.twins.proofs.Attributes.{attributes_same, texts_read}

-- ---- a sheet whose texts are read passes

texts_from_lem : (s : List ℕ) (i n : ℕ) → ((j : ℕ) → i ≤ j → j < i + n → Each ReadText (texts_in s (places_of s (offset_of s j)))) → Each ReadText (texts_from s i n)
unfolding texts_from
texts_from_lem s i zero f = tt
texts_from_lem s i (suc n) f =
    each_append ReadText (texts_in s (places_of s (offset_of s i))) (texts_from s (i + 1) n) (f i (omega arith) (omega arith))
    (texts_from_lem s (i + 1) n (λ j l h. f j (omega arith) (omega arith)))

all_pass : (ts : List (List ℕ)) → Each ReadText ts → (all text_in_grammar ts ≡ true) × (all text_in_limits ts ≡ true)
unfolding all
all_pass [] h = (refl, refl)
all_pass (t ∷ ts) h = rw h.0.outcome (all_pass ts h.1)

sheet_passes : (s : List ℕ) → Each ReadText (typed_texts s) → (grammar_ok s ≡ true) × (limits_ok s ≡ true)
unfolding grammar_ok limits_ok
sheet_passes s h = all_pass (typed_texts s) h

module _ (s t : List ℕ) (w : Twins s t) where
  -- ---- the same values

  laid : T (layout_ok s)
  laid = rw w.layout tt

  pub count_same : count_of s ≡ count_of t
  count_same = count_moved s t w.front

  node_same : (i : ℕ) → i < count_of s → node_at s i ≡ node_at t i
  node_same i h =
      let n = w.nodes i h in
      node_moved s t (offset_of s i) (offset_of t i) n.head (attributes_same s t n.attributes (record_kinds s i (record_within s laid i h).0))

  pub sheet_same : sheet_of s ≡ sheet_of t
  unfolding sheet_of
  sheet_same =
      let header : header_of s ≡ header_of t = header_moved s t w.front in
      let nodes : nodes_from s 0 (count_of s) ≡ nodes_from t 0 (count_of s) = nodes_same s t 0 (count_of s) (λ j l h. node_same j (omega arith)) in
      cc (count_same)

  -- ---- typed lists

  pub passes : (grammar_ok s ≡ true) × (limits_ok s ≡ true)
  passes = sheet_passes s (texts_from_lem s 0 (count_of s) (λ j l h. (texts_read s t (w.nodes j (omega arith)).attributes).0))

  pub twin_passes : (grammar_ok t ≡ true) × (limits_ok t ≡ true)
  twin_passes =
      let same = count_same in
      sheet_passes t (texts_from_lem t 0 (count_of t) (λ j l h. (texts_read s t (w.nodes j (omega arith)).attributes).1))
