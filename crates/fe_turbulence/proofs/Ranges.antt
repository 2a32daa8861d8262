-- The base frequencies of a turbulence are positive, for every node. Assumes nothing.
use Rattle.fe.specs.declared.pair.Pair.{Pair}
use Rattle.std.specs.Prelude.{None, Option, Some}
use mathlib.Core.List.{List}
use lib.Ieee.{Float, of_bits, le}
use Rattle.names.specs.Ids.{aid_base_frequency}
use Rattle.num.specs.Constants.{plus_zero}
use Rattle.num.proofs.Each.{choose}
use Rattle.svgtree.specs.Values.{Node}
use Rattle.svgtree.specs.Readers.{numbers_of}
use Rattle.fe.specs.Pairs.{pair_of, pair_in, signs_clear, if_positive}
use Rattle.fe.proofs.Pairs.{PairHolds, Positive, if_positive_lem}
use Rattle.fe_turbulence.specs.Turbulence.{frequency_of, turbulence_with, turbulence_of}
use Rattle.fe_turbulence.specs.ProofRanges.{TurbulenceOk}

zeros : PairHolds Positive (Some (pair_of plus_zero plus_zero))
unfolding of_bits le
zeros = (tt, tt)

frequency_positive : (o : Option (List Float)) → PairHolds Positive (frequency_of o)
frequency_positive None = zeros
frequency_positive (Some xs) = choose (PairHolds Positive) (signs_clear (pair_in xs)) (if_positive (pair_in xs)) (Some (pair_of plus_zero plus_zero)) (if_positive_lem (pair_in xs)) zeros

with_frequency : (n : Node) (m : Option Pair) → PairHolds Positive m → TurbulenceOk (turbulence_with n m)
with_frequency n (Some p) h = record { frequency_x = h.0; frequency_y = h.1 }
with_frequency n None h = tt

pub turbulence_ok : (n : Node) → TurbulenceOk (turbulence_of n)
turbulence_ok n = with_frequency n (frequency_of (numbers_of n aid_base_frequency)) (frequency_positive (numbers_of n aid_base_frequency))
