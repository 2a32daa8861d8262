-- feMorphology is refused in one way only, as unrepresentable. Assumes nothing.
use Rattle.fe.specs.declared.pair.Pair.{Pair}
use Rattle.std.specs.Prelude.{Err, None, Option, Some}
use mathlib.Core.Path.{◌≡◌}
use Rattle.answer.specs.declared.Refusal.{Refusal}
use Rattle.answer.specs.declared.Refusal.TheVariants.{Unrepresentable}
use Rattle.names.specs.Ids.{aid_radius}
use Rattle.geom.specs.declared.Size.{Size}
use Rattle.svgtree.specs.Values.{Node}
use Rattle.svgtree.specs.Readers.{numbers_of}
use Rattle.tree.specs.declared.MorphologyOperator.{MorphologyOperator}
use Rattle.fe_morphology.specs.Morphology.{morphology_operator_of, radius_of, morphology_with, morphology_of}

morphology_with_lem : (o : MorphologyOperator) (m : Option Pair) (why : Refusal) → morphology_with o m ≡ Err why → why ≡ Unrepresentable
morphology_with_lem o (Some p) why e = cc
morphology_with_lem o None why e = cc

pub morphology_refusal : (n : Node) (scale : Size) (why : Refusal) → morphology_of n scale ≡ Err why → why ≡ Unrepresentable
morphology_refusal n scale why e = morphology_with_lem (morphology_operator_of n) (radius_of (numbers_of n aid_radius) scale) why e
