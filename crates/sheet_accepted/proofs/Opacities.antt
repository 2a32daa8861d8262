-- Refusal 3 keeps the flood-opacity of every node in its range. Assumes nothing.
use mathlib.Core.Bool.{Bool, true, false, not, cond, ◌&&◌, ◌||◌}
use mathlib.Core.List.{List, [], ◌∷◌}
use lib.Dec.{T, eqb}
use lib.Ieee.Fits.{and_l, and_r}
use Rattle.names.specs.Ids.{aid_flood_opacity}
use Rattle.num.specs.Sign.{positive}
use Rattle.svgtree.specs.Values.{Attribute, Node}
use Rattle.svgtree.specs.Readers.{value_under}
use Rattle.field_tests.specs.Tests.{all}
use Rattle.sheet_check.specs.Numbers.{value_numbers_ok, opacity_ok, attribute_numbers_ok, node_numbers_ok}

lookup_passed : (given : List Attribute) → T (all attribute_numbers_ok given) → T (opacity_ok (value_under aid_flood_opacity given))
unfolding all value_under attribute_numbers_ok opacity_ok
lookup_passed [] h = tt
lookup_passed (a ∷ rest) h =
    go (eqb a.id aid_flood_opacity) (and_l (attribute_numbers_ok a) (all attribute_numbers_ok rest) h) (lookup_passed rest (and_r (attribute_numbers_ok a) (all attribute_numbers_ok rest) h))
  where
    go : (b : Bool) → T (value_numbers_ok a.value && (not b || opacity_ok a.value)) → T (opacity_ok (value_under aid_flood_opacity rest))
        → T (opacity_ok (cond b a.value (value_under aid_flood_opacity rest)))
    go true p q = and_r (value_numbers_ok a.value) (opacity_ok a.value) p
    go false p q = q

pub node_opacity : (n : Node) → T (node_numbers_ok n) → T (opacity_ok (value_under aid_flood_opacity n.attributes))
unfolding node_numbers_ok
node_opacity n h = lookup_passed n.attributes (and_r (positive n.font_size) (all attribute_numbers_ok n.attributes) h)
