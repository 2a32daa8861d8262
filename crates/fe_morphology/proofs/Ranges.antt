-- The radii of a morphology are positive, for every node and every scale whose sides are finite and not negative. Assumes nothing.
use Rattle.fe.specs.declared.pair.Pair.{Pair}
use Rattle.std.specs.Prelude.{None, Option, Some}
use mathlib.Core.List.{List}
use lib.Dec.{T}
use lib.Ieee.{Float}
use Rattle.names.specs.Ids.{aid_radius}
use Rattle.num.specs.Numbers.{IsFinite}
use Rattle.num.proofs.Each.{choose}
use Rattle.num.proofs.Laws.{plus}
use Rattle.geom.specs.declared.Size.{Size}
use Rattle.svgtree.specs.Values.{Node}
use Rattle.svgtree.specs.Readers.{numbers_of}
use Rattle.tree.specs.declared.MorphologyOperator.{MorphologyOperator}
use Rattle.fe.specs.Pairs.{pair_in, signs_clear, if_positive}
use Rattle.fe.proofs.Numbers.{plus_positive}
use Rattle.fe.proofs.Pairs.{PairHolds, Positive, if_positive_lem}
use Rattle.fe_morphology.specs.Morphology.{morphology_operator_of, ones_for_zeros, unit_radius, scaled_radius, radius_of, morphology_with, morphology_of}
use Rattle.fe_morphology.specs.ProofRanges.{MorphologyOk}

with_radius : (o : MorphologyOperator) (m : Option Pair) → PairHolds Positive m → MorphologyOk (morphology_with o m)
with_radius o (Some p) h = record { radius_x = h.0; radius_y = h.1 }
with_radius o None h = tt

module _ (n : Node) (scale : Size) (fw : IsFinite scale.width) (fh : IsFinite scale.height) (pw : T (plus scale.width)) (ph : T (plus scale.height)) where
  unit_positive : PairHolds Positive (Some (unit_radius scale))
  unit_positive = (plus_positive scale.width fw pw, plus_positive scale.height fh ph)

  radius_positive : (o : Option (List Float)) → PairHolds Positive (radius_of o scale)
  radius_positive None = unit_positive
  radius_positive (Some xs) =
      let p = ones_for_zeros (pair_in xs) in
      choose (PairHolds Positive) (signs_clear p) (if_positive (scaled_radius p scale)) (Some (unit_radius scale)) (if_positive_lem (scaled_radius p scale)) unit_positive

  pub morphology_ok : MorphologyOk (morphology_of n scale)
  morphology_ok = with_radius (morphology_operator_of n) (radius_of (numbers_of n aid_radius) scale) (radius_positive (numbers_of n aid_radius))
