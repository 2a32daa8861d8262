-- A case of `radius` that is refused, found by computing.
use Rattle.std.specs.Prelude.{◌≡◌, refl, [], ◌∷◌, Float, Err}
use Rattle.std.specs.Float.{binary32}
use Rattle.std.specs.Float.Ieee.{of_bits, to_bits, mul, le, round}
use Rattle.answer.specs.declared.Refusal.TheVariants.{Unrepresentable}
use Rattle.names.specs.Ids.{eid_fe_morphology, aid_radius}
use Rattle.num.specs.Constants.{plus_zero, one}
use Rattle.num.specs.Narrowed.{or_zero}
use Rattle.geom.specs.Geometry.{largest}
use Rattle.svgtree.specs.Values.{Node, numbers_value}
use Rattle.svgtree.specs.Readers.{value_under, numbers_in, text_in}
use Rattle.fe.specs.Keywords.{keyword}
use Rattle.fe.specs.Pairs.{pair_in, signs_clear, if_positive}
use Rattle.fe_morphology.specs.Morphology.{one_for_zero, morphology_of}

abbrev five : Float
five = of_bits binary32 0x40a0_0000

-- a node with radius 5 and nothing else
abbrev radius_five : Node
radius_five = record { depth = 0; tag = eid_fe_morphology; font_size = plus_zero; attributes = record { id = aid_radius; value = numbers_value (five ∷ []) } ∷ [] }

-- a product that is not finite
pub radius_refused : morphology_of radius_five (record { width = largest; height = one }) ≡ Err Unrepresentable
unfolding value_under numbers_in text_in or_zero keyword pair_in one_for_zero signs_clear if_positive mul le round to_bits of_bits
radius_refused = refl
