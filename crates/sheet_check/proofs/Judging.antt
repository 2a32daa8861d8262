-- Laws on faults: along attributes and nodes, and that the worst fault of all says which of 10, 11 and 3 comes first. Assumes nothing.
use Prim.Native.Nat.{ℕ, zero, suc, ◌+◌}
use mathlib.Core.Path.{◌≡◌, refl, ap, ap₂, sym, ◌∙◌}
use mathlib.Core.List.{List, [], ◌∷◌, ◌++◌, map, map-map}
use mathlib.Core.Bool.{Bool, true, false, not, ◌&&◌, cond, or-true, and-false, and-true}
use lib.Dec.{eqb}
use borrow.Author.Tests.{eqb-true}
use Rattle.std.specs.Prelude.{Option, Some, None, Err}
use Rattle.answer.specs.declared.Refusal.TheVariants.{OutsideGrammar, OutsideLimits}
use Rattle.bits.specs.Bytes.{bytes_from}
use Rattle.num.specs.Sign.{positive}
use Rattle.sheet_fields.specs.Fields.{kind_typed}
use Rattle.number_list.specs.Outcome.{TextOutcome, outside_grammar, outside_limits, passed, text_outcome}
use Rattle.number_list.specs.Means.{outcome_check}
use Rattle.svgtree.specs.Parse.{attribute_kind_at, attribute_length_at, value_place, value_at, attribute_at, places_of, count_of, offset_of, node_from, nodes_from, sheet_of}
use Rattle.svgtree.specs.declared.attributes.Attribute.{Attribute}
use Rattle.svgtree.specs.Listed.{read_at, read_from, read_of}
use Rattle.svgtree.specs.declared.SvgNode.{SvgNode}
use Rattle.svgtree.specs.Nodes.{handles_from}
use denote.Ref.{Bor}
use Rattle.field_tests.specs.Tests.{all}
use Rattle.sheet_check.specs.Numbers.{value_numbers_ok, opacity_ok, attribute_numbers_ok, node_numbers_ok, header_numbers_ok, numbers_ok}
use Rattle.sheet_check.specs.Texts.{texts_in, texts_from, typed_texts, outcome_in_grammar, outcome_in_limits, text_in_grammar, text_in_limits, grammar_ok, limits_ok}
use Rattle.sheet_check.specs.declared.faults.Fault.{Fault}
use Rattle.sheet_check.specs.declared.faults.Fault.TheVariants.{Number, Limits, Grammar}
use Rattle.sheet_check.specs.Refusals.{values_refusal}
use Rattle.sheet_check.specs.Means.{refusal_from, text_fault, number_fault, worse_of, worst, fault_of, attribute_fault, node_fault, fault_of_node, node_faults}
use Rattle.sheet_check.proofs.Numbering.{typed_finite}

-- ---- the worse of two faults

pub worse_none : (a : Option Fault) → worse_of a None ≡ a
worse_none None = refl
worse_none (Some Number) = refl
worse_none (Some Limits) = refl
worse_none (Some Grammar) = refl

pub worse_assoc : (a b c : Option Fault) → worse_of (worse_of a b) c ≡ worse_of a (worse_of b c)
worse_assoc None b c = refl
worse_assoc (Some Number) None c = refl
worse_assoc (Some Number) (Some Number) None = refl
worse_assoc (Some Number) (Some Number) (Some Number) = refl
worse_assoc (Some Number) (Some Number) (Some Limits) = refl
worse_assoc (Some Number) (Some Number) (Some Grammar) = refl
worse_assoc (Some Number) (Some Limits) None = refl
worse_assoc (Some Number) (Some Limits) (Some Number) = refl
worse_assoc (Some Number) (Some Limits) (Some Limits) = refl
worse_assoc (Some Number) (Some Limits) (Some Grammar) = refl
worse_assoc (Some Number) (Some Grammar) c = refl
worse_assoc (Some Limits) None c = refl
worse_assoc (Some Limits) (Some Number) None = refl
worse_assoc (Some Limits) (Some Number) (Some Number) = refl
worse_assoc (Some Limits) (Some Number) (Some Limits) = refl
worse_assoc (Some Limits) (Some Number) (Some Grammar) = refl
worse_assoc (Some Limits) (Some Limits) None = refl
worse_assoc (Some Limits) (Some Limits) (Some Number) = refl
worse_assoc (Some Limits) (Some Limits) (Some Limits) = refl
worse_assoc (Some Limits) (Some Limits) (Some Grammar) = refl
worse_assoc (Some Limits) (Some Grammar) c = refl
worse_assoc (Some Grammar) b c = refl

-- ---- a node's attributes, and the nodes from number i on, of n

module _ (s : List ℕ) where
  pub faults_listed : (at : ℕ) → worst (map (attribute_fault s) (places_of s at)) ≡ worst (map (fault_of s) (read_of s at))
  unfolding read_from attribute_fault attribute_at
  faults_listed at = sym (ap worst (map-map (fault_of s) (read_at s) (places_of s at)))

  pub attributes_step : (a : Attribute) (rest : List Attribute) → worst (map (fault_of s) (a ∷ rest)) ≡ worse_of (fault_of s a) (worst (map (fault_of s) rest))
  unfolding worst
  attributes_step a rest = refl

  pub attributes_end : (found : Option Fault) (rest : List Attribute) → rest ≡ [] → worse_of found (worst (map (fault_of s) rest)) ≡ found
  unfolding worst
  attributes_end found rest e = rw e (worse_none found)

-- the faults of the nodes that the code gives
pub faults_handled : (bytes : Bor (List ℕ)) (i n : ℕ) → node_faults bytes.now i n ≡ map fault_of_node (handles_from bytes i n)
unfolding node_faults handles_from
faults_handled bytes i zero = refl
faults_handled bytes i (suc n) = rw (faults_handled bytes (i + 1) n)

pub nodes_begun : (bytes : Bor (List ℕ)) (i n : ℕ) → worst (node_faults bytes.now i n) ≡ worst (map fault_of_node (handles_from bytes i n))
nodes_begun bytes i n = ap worst (faults_handled bytes i n)

pub nodes_step : (n : SvgNode) (rest : List SvgNode) → worst (map fault_of_node (n ∷ rest)) ≡ worse_of (fault_of_node n) (worst (map fault_of_node rest))
unfolding worst
nodes_step n rest = refl

pub nodes_end : (found : Option Fault) (rest : List SvgNode) → rest ≡ [] → worse_of found (worst (map fault_of_node rest)) ≡ found
unfolding worst
nodes_end found rest e = rw e (worse_none found)

-- ---- a fault, by the three tests in their order

abbrev judged : (grammar limits number : Bool) → Option Fault
judged grammar limits number = cond (not grammar) (Some Grammar) (cond (not limits) (Some Limits) (cond (not number) (Some Number) None))

-- the worse of two faults is that of the tests of both
judged_both : (g l n h m k : Bool) → worse_of (judged g l n) (judged h m k) ≡ judged (g && h) (l && m) (n && k)
judged_both false l n h m k = refl
judged_both true false n false m k = refl
judged_both true false n true false k = refl
judged_both true false n true true false = refl
judged_both true false n true true true = refl
judged_both true true false false m k = refl
judged_both true true false true false k = refl
judged_both true true false true true false = refl
judged_both true true false true true true = refl
judged_both true true true h m k = refl

text_judged : (o : TextOutcome) → text_fault (outcome_check o) ≡ judged (outcome_in_grammar o) (outcome_in_limits o) true
text_judged outside_grammar = refl
text_judged outside_limits = refl
text_judged (passed xs) = refl

number_judged : (n : Bool) → number_fault n ≡ judged true true n
number_judged true = refl
number_judged false = refl

all_append : {A : Type 0} (p : A → Bool) (xs ys : List A) → all p (xs ++ ys) ≡ (all p xs && all p ys)
unfolding all
all_append p [] ys = refl
all_append p (x ∷ xs) ys = go (p x) (all_append p xs ys)
  where
    go : (b : Bool) → all p (xs ++ ys) ≡ (all p xs && all p ys) → (b && all p (xs ++ ys)) ≡ ((b && all p xs) && all p ys)
    go true e = e
    go false e = refl

-- the numbers of a typed list pass
typed_numbers_ok : (s : List ℕ) (at : ℕ) → attribute_kind_at s at ≡ kind_typed → attribute_numbers_ok (attribute_at s at) ≡ true
unfolding attribute_numbers_ok attribute_at value_at value_numbers_ok opacity_ok
typed_numbers_ok s at e = rw (e, typed_finite (bytes_from s (value_place at) (attribute_length_at s at)), or-true)

attributes_judged : (s : List ℕ) (places : List ℕ)
    → worst (map (attribute_fault s) places)
    ≡ judged (all text_in_grammar (texts_in s places)) (all text_in_limits (texts_in s places)) (all attribute_numbers_ok (map (attribute_at s) places))
unfolding worst all texts_in attribute_fault
attributes_judged s [] = refl
attributes_judged s (at ∷ places) = go (eqb (attribute_kind_at s at) kind_typed) refl (attributes_judged s places)
  where
    text : List ℕ
    text = bytes_from s (value_place at) (attribute_length_at s at)

    ts : List (List ℕ)
    ts = texts_in s places

    numbers : Bool
    numbers = all attribute_numbers_ok (map (attribute_at s) places)

    go : (b : Bool) → eqb (attribute_kind_at s at) kind_typed ≡ b
        → worst (map (attribute_fault s) places) ≡ judged (all text_in_grammar ts) (all text_in_limits ts) numbers
        → worse_of (cond b (text_fault (outcome_check (text_outcome text))) (number_fault (attribute_numbers_ok (attribute_at s at)))) (worst (map (attribute_fault s) places))
        ≡ judged (all text_in_grammar (cond b (text ∷ ts) ts)) (all text_in_limits (cond b (text ∷ ts) ts)) (attribute_numbers_ok (attribute_at s at) && numbers)
    go true e ih =
        let ok : attribute_numbers_ok (attribute_at s at) ≡ true = typed_numbers_ok s at (eqb-true (attribute_kind_at s at) kind_typed e) in
        ap₂ worse_of (text_judged (text_outcome text)) ih
        ∙ judged_both (text_in_grammar text) (text_in_limits text) true (all text_in_grammar ts) (all text_in_limits ts) numbers
        ∙ ap (λ (n : Bool). judged (text_in_grammar text && all text_in_grammar ts) (text_in_limits text && all text_in_limits ts) (n && numbers)) (sym ok)
    go false e ih =
        let n = attribute_numbers_ok (attribute_at s at) in
        ap₂ worse_of (number_judged n) ih ∙ judged_both true true n (all text_in_grammar ts) (all text_in_limits ts) numbers

node_judged : (s : List ℕ) (at : ℕ)
    → node_fault s at ≡ judged (all text_in_grammar (texts_in s (places_of s at))) (all text_in_limits (texts_in s (places_of s at))) (node_numbers_ok (node_from s at))
unfolding node_fault node_numbers_ok node_from
node_judged s at =
    let ts = texts_in s (places_of s at) in
    let p = positive (node_from s at).font_size in
    ap₂ worse_of (number_judged p) (attributes_judged s (places_of s at))
    ∙ judged_both true true p (all text_in_grammar ts) (all text_in_limits ts) (all attribute_numbers_ok (map (attribute_at s) (places_of s at)))

nodes_judged : (s : List ℕ) (i n : ℕ)
    → worst (node_faults s i n) ≡ judged (all text_in_grammar (texts_from s i n)) (all text_in_limits (texts_from s i n)) (all node_numbers_ok (nodes_from s i n))
unfolding worst node_faults texts_from nodes_from all
nodes_judged s i zero = refl
nodes_judged s i (suc n) =
    let first = texts_in s (places_of s (offset_of s i)) in
    let rest = texts_from s (i + 1) n in
    ap₂ worse_of (node_judged s (offset_of s i)) (nodes_judged s (i + 1) n)
    ∙ judged_both (all text_in_grammar first) (all text_in_limits first) (node_numbers_ok (node_from s (offset_of s i))) (all text_in_grammar rest) (all text_in_limits rest) (all node_numbers_ok (nodes_from s (i + 1) n))
    ∙ rw (all_append text_in_grammar first rest, all_append text_in_limits first rest)

-- ---- the worst fault of all nodes, and the tests of the sheet

is_grammar : (g l n : Bool) → Some Grammar ≡ judged g l n → g ≡ false
is_grammar false l n e = refl
is_grammar true false n e = cc
is_grammar true true false e = cc
is_grammar true true true e = cc

is_limits : (g l n : Bool) → Some Limits ≡ judged g l n → (g ≡ true) × (l ≡ false)
is_limits false l n e = (cc, cc)
is_limits true false n e = (refl, refl)
is_limits true true false e = (refl, cc)
is_limits true true true e = (refl, cc)

is_number : (g l n : Bool) → Some Number ≡ judged g l n → (g ≡ true) × (l ≡ true) × (n ≡ false)
is_number false l n e = (cc, cc, cc)
is_number true false n e = (refl, cc, cc)
is_number true true false e = (refl, refl, refl)
is_number true true true e = (refl, refl, cc)

is_nothing : (g l n : Bool) → None ≡ judged g l n → (g ≡ true) × (l ≡ true) × (n ≡ true)
is_nothing false l n e = (cc, cc, cc)
is_nothing true false n e = (refl, cc, cc)
is_nothing true true false e = (refl, refl, cc)
is_nothing true true true e = (refl, refl, refl)

module _ (s : List ℕ) where
  abbrev faults : Option Fault
  faults = worst (node_faults s 0 (count_of s))

  abbrev numbers : Bool
  numbers = all node_numbers_ok (nodes_from s 0 (count_of s))

  by_tests : faults ≡ judged (all text_in_grammar (typed_texts s)) (all text_in_limits (typed_texts s)) numbers
  by_tests = nodes_judged s 0 (count_of s)

  grammar_broken : Some Grammar ≡ faults → grammar_ok s ≡ false
  unfolding grammar_ok
  grammar_broken e = is_grammar (all text_in_grammar (typed_texts s)) (all text_in_limits (typed_texts s)) numbers (e ∙ by_tests)

  limits_broken : Some Limits ≡ faults → (grammar_ok s ≡ true) × (limits_ok s ≡ false)
  unfolding grammar_ok limits_ok
  limits_broken e = is_limits (all text_in_grammar (typed_texts s)) (all text_in_limits (typed_texts s)) numbers (e ∙ by_tests)

  number_broken : Some Number ≡ faults → (grammar_ok s ≡ true) × (limits_ok s ≡ true) × (numbers_ok (sheet_of s) ≡ false)
  unfolding grammar_ok limits_ok numbers_ok sheet_of
  number_broken e =
      let h = is_number (all text_in_grammar (typed_texts s)) (all text_in_limits (typed_texts s)) numbers (e ∙ by_tests) in
      (h.0, h.1, rw h.2 (and-false (header_numbers_ok (sheet_of s).header)))

  -- a fault of the nodes is what the sheet is refused for
  pub refused : (f : Fault) → Some f ≡ faults
      → cond (not (grammar_ok s)) (Err OutsideGrammar) (cond (not (limits_ok s)) (Err OutsideLimits) (values_refusal (sheet_of s))) ≡ Err (refusal_from f)
  refused Grammar e = rw (grammar_broken e)
  refused Limits e = let h = limits_broken e in rw (h.0, h.1)
  refused Number e = let h = number_broken e in rw (h.0, h.1, h.2)

  pub no_fault : None ≡ faults → (grammar_ok s ≡ true) × (limits_ok s ≡ true) × (numbers_ok (sheet_of s) ≡ header_numbers_ok (sheet_of s).header)
  unfolding grammar_ok limits_ok numbers_ok sheet_of
  no_fault e =
      let h = is_nothing (all text_in_grammar (typed_texts s)) (all text_in_limits (typed_texts s)) numbers (e ∙ by_tests) in
      (h.0, h.1, rw h.2 (and-true (header_numbers_ok (sheet_of s).header)))

-- the worst fault along attributes
pub ruleset along_attributes = (faults_listed, attributes_step, attributes_end, worse_assoc)

-- and along nodes
pub ruleset along_nodes = (nodes_begun, nodes_step, nodes_end, worse_assoc)

-- what the worst fault says of the sheet
pub ruleset judging = (refused, no_fault)
