-- Laws on the records from a number on, one for each way in which a turn of a loop over them can go. Assumes nothing.
use Prim.Native.Nat.{ℕ, zero, suc, ◌+◌, ◌-◌, ◌<◌, ◌≤◌}
use native.Mathlib.Omega.{arith}
use mathlib.Core.Path.{◌≡◌, refl, ap}
use mathlib.Core.List.{List, [], ◌∷◌}
use mathlib.Core.Bool.{Bool, true, cond, not, ◌&&◌, ◌||◌}
use lib.Dec.{eqb}
use Rattle.svgtree.specs.declared.SvgNode.{SvgNode}
use Rattle.svgtree.specs.Nodes.{node_of, handles_from}
use Rattle.svgtree.specs.Parse.{node_depth, node_tag_at, pair_offset, pair_length_at, offset_of, node_from}
use denote.Ref.{Bor}
use Rattle.std.specs.List.{list_all, range_with_len}
use Rattle.field_tests.specs.Tests.{all}
use Rattle.sheet_layout.specs.Records.{node_record_at, node_records_from}
use Rattle.sheet_layout.specs.Layout.{touch, node_record_ok, depths_ok}

records_none : (s : List ℕ) (i n : ℕ) → n ≤ i → node_records_from s i (n - i) ≡ []
unfolding node_records_from
records_none s i n h =
    let e : n - i ≡ 0 = omega arith in
    ap (λ (k : ℕ). node_records_from s i k) e

records_step : (s : List ℕ) (i n : ℕ) → i < n → node_records_from s i (n - i) ≡ node_record_at s i ∷ node_records_from s (i + 1) (n - (i + 1))
unfolding node_records_from
records_step s i n h =
    let e : n - i ≡ suc (n - (i + 1)) = omega arith in
    ap (λ (k : ℕ). node_records_from s i k) e

-- the records from number i on, of n
module _ (s : List ℕ) (i n : ℕ) where
  pub touch_step : (at end : ℕ) → i < n
      → touch at end (node_records_from s i (n - i))
      ≡ (eqb (pair_offset s i) at && touch (at + pair_length_at s i) end (node_records_from s (i + 1) (n - (i + 1))))
  unfolding touch node_record_at
  touch_step at end h = ap (touch at end) (records_step s i n h)

  pub touch_end : (at end : ℕ) → n ≤ i → touch at end (node_records_from s i (n - i)) ≡ eqb at end
  unfolding touch
  touch_end at end h = ap (touch at end) (records_none s i n h)

-- the test of depths, of the nodes that the code gives
unfoldable pub handles_deep : Bool → List SvgNode → Bool
handles_deep tagged [] = true
handles_deep tagged (n ∷ rest) = (eqb (node_of n).depth 0 || tagged) && handles_deep (cond (eqb (node_of n).depth 0) (not (eqb (node_of n).tag 0)) tagged) rest

pub depths_handled : (bytes : Bor (List ℕ)) (i n : ℕ) (t : Bool) → depths_ok t (node_records_from bytes.now i n) ≡ handles_deep t (handles_from bytes i n)
unfolding depths_ok node_records_from node_record_at handles_deep handles_from node_from
depths_handled bytes i zero t = refl
depths_handled bytes i (suc n) t =
    let r = offset_of bytes.now i in
    rw (depths_handled bytes (i + 1) n (cond (eqb (node_depth bytes.now r) 0) (not (eqb (node_tag_at bytes.now r) 0)) t))

pub depths_step : (t : Bool) (n : SvgNode) (rest : List SvgNode)
    → handles_deep t (n ∷ rest) ≡ ((eqb (node_of n).depth 0 || t) && handles_deep (cond (eqb (node_of n).depth 0) (not (eqb (node_of n).tag 0)) t) rest)
unfolding handles_deep
depths_step t n rest = refl

pub depths_end : (t : Bool) (rest : List SvgNode) → rest ≡ [] → handles_deep t rest ≡ true
unfolding handles_deep
depths_end t rest e = rw e

-- the test of each record, by its number
abbrev pub record_ok_at : List ℕ → ℕ → Bool
record_ok_at s i = node_record_ok (node_record_at s i)

pub records_ranged : (s : List ℕ) (i n : ℕ) → list_all (record_ok_at s) (range_with_len i n) ≡ all node_record_ok (node_records_from s i n)
unfolding all node_records_from
records_ranged s i zero = refl
records_ranged s i (suc n) = rw (records_ranged s (i + 1) n)

-- a turn of the test that records touch, and its end
pub ruleset touching = (touch_step, touch_end)

-- a turn of the test of depths, and its end
pub ruleset deepening = (depths_handled, depths_step, depths_end)
