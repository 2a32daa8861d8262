-- The chain sums the length of each input: no more than 258 bytes, 512 times. Assumes nothing.
use native.Mathlib.Omega.{arith}
use mathlib.Core.Path.{refl, ◌∙◌}
use Prim.Native.Nat.{◌+◌}
use Rattle.std.proofs.Common.{rules, tests}
use Rattle.std.proofs.lemmas.Iterator.{YieldsList-from_range, YieldsList-from_map}
use Rattle.std.proofs.lemmas.Iterator.Adapters.{at_most_from_yields_List, fits_from_length}
use Rattle.std.proofs.lemmas.Iterator.Consumers.{sum_by_from_yields_List}
use Rattle.std.proofs.lemmas.List.FromFn.{length-range_with_len}
use Rattle.std.specs.List.{range_with_len}
use Rattle.list_primitives.proofs.Merges.{length_of_node, merge_sum}
use Rattle.list_primitives.proofs.merge_size.Goals as goal

pub sum-requires-clause-fits : goal.sum-requires-clause-fits
sum-requires-clause-fits c =
    let v = c.args.merge in
    fits_from_length _ c.map.result.f 512 4294967296
    (at_most_from_yields_List (YieldsList-from_range v.first (v.first + v.count) v.count (cc) (omega arith)) (simp length-range_with_len (omega arith)))
    refl (omega arith) (λ x r q k. search (rules, tests))

pub returns : goal.returns
returns c =
    let n = c.args.names.now in
    let v = c.args.merge in
    let nodes = YieldsList-from_range v.first (v.first + v.count) v.count (cc) (omega arith) in
    let run = c.sum.ensures.runs tt in
    let bound = fits_from_length _ c.map.result.f 512 132097 (at_most_from_yields_List nodes (simp length-range_with_len (omega arith))) refl (omega arith) (λ x r q k. search (rules, tests)) run.0 run.0.seen run.1 in (
      sum_by_from_yields_List (length_of_node n.bytes.now n.entries.now) (range_with_len v.first v.count) _ _ c.sum.ensures.ran
          (YieldsList-from_map _ (length_of_node n.bytes.now n.entries.now) {f = c.map.result.f} nodes refl (λ x r q k. search (rules, tests)))
          ∙ merge_sum n.bytes.now n.entries.now v.first v.count,
      omega (arith, bound, run.3),
    )
