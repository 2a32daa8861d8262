-- The list of an accepted sheet has at most 548,866 bytes, so it fits the output that the header names; its counts and its offsets fit their widths.
-- Assumes nothing.
use Rattle.std.specs.Prelude.{Ok}
use Prim.Native.Nat.{ℕ, ◌≤◌, ◌<◌}
use native.Mathlib.Omega.{arith}
use mathlib.Core.Path.{◌≡◌}
use mathlib.Core.List.{List}
use lib.ListN.{length, get_or}
use Rattle.geom.specs.declared.Rect.{Rect}
use Rattle.svgtree.specs.Values.{Node}
use Rattle.svgtree.specs.Parse.{count_of, nodes_from, header_of, sheet_of}
use Rattle.tree.specs.List.{list_bytes}
use Rattle.region.specs.declared.Frame.{Frame}
use Rattle.region.specs.Region.{filter_region_of, frame_of}
use Rattle.region.proofs.Regions.{frame_sound}
use Rattle.sheet_check.specs.Refusals.{first_refusal}
use Rattle.svgtree.proofs.Following.{nodes_length}
use Rattle.sheet_accepted.proofs.Accepted.{passed, short_sheet, few_nodes, accepted_nodes}
use Rattle.child.specs.Child.{Child}
use Rattle.chain.specs.Chain.{kept, chain}
use Rattle.naming.specs.Names.{start}
use Rattle.list_primitives.specs.Primitives.{primitives}
use Rattle.list_within.specs.Lists.{ListWithin}
use Rattle.list_within.proofs.ListsFit.{within}
use Rattle.list_bounds.specs.Bounds.{most_bytes, ListFits}
use Rattle.list_bounds.proofs.Lists.{list_long}
use Rattle.list_bounds.proofs.Widths.{pairs_fit, counts_fit}
use Rattle.list_bounds.proofs.Chains.{chain_long}
use Rattle.list_bounds.proofs.Sheets.{nodes_numbers, numbers_fit}

-- ---- any frame, and nodes whose lists have at most so many bytes of numbers as a sheet may give: twice its own

module _ (f : Frame) (ns : List Node) (few : length ns ≤ 512) (small : nodes_numbers ns ≤ 131072) (cs : List Child) (counted : chain f ns ≡ kept cs) (w : ListWithin (primitives cs)) where
  bytes_most : length (list_bytes (primitives cs)) ≤ 548866
  bytes_most = omega (arith, list_long start cs w.within, chain_long f ns cs counted)

  pub list_fits : ListFits (primitives cs)
  list_fits =
      let short : length (list_bytes (primitives cs)) ≤ most_bytes = omega (arith, bytes_most) in
      record { short = short; counts = counts_fit (primitives cs) w.few w.within; pairs = pairs_fit (primitives cs) short }

-- ---- an accepted sheet, in its own frame

pub accepted_fits : (s : List ℕ) → ((i : ℕ) → get_or s i 0 < 256) → (q : Rect) → first_refusal s ≡ (Ok tt) → filter_region_of (header_of s) ≡ Ok q
    → (cs : List Child) → chain (frame_of (header_of s) q) (sheet_of s).nodes ≡ kept cs → ListFits (primitives cs)
unfolding sheet_of
accepted_fits s bytes q accepted placed cs counted =
    let frame = frame_of (header_of s) q in
    let n = numbers_fit s (passed s accepted).layout in
    list_fits frame (nodes_from s 0 (count_of s)) (omega (arith, nodes_length s 0 (count_of s), few_nodes s accepted)) (omega (arith, short_sheet s accepted, n)) cs counted
    (within frame (nodes_from s 0 (count_of s)) (frame_sound s q placed) (accepted_nodes s bytes accepted) cs counted)
