-- What holds of the nodes of an accepted sheet, as far as a list depends on it: refusals 1 to 3, 10 and 11 turn every other sheet away. No header has a say here,
-- so the nodes may be converted in the frame of another sheet. Definitions only.
use Rattle.std.specs.Prelude.{ℕ, ◌≤◌, ◌≡◌, true, List, [], ◌∷◌, T, length}
use Rattle.std.specs.Float.{binary32}
use Rattle.std.specs.Float.Ieee.{fits}
use Rattle.bits.specs.Utf8.{utf8}
use Rattle.names.specs.Ids.{aid_flood_opacity}
use Rattle.svgtree.specs.Values.{Value, absent, text_value, number_value, numbers_value, length_value, color_value, tries_value, Node}
use Rattle.svgtree.specs.Readers.{value_under}
use Rattle.field_tests.specs.Tests.{all}
use Rattle.sheet_check.specs.Numbers.{opacity_ok}

-- a value: "text, UTF-8, to 255 bytes", "f32", "f32 list, to 1,024", typed or not, "colour (red, green, blue, alpha)" of a byte each
abbrev pub AcceptedValue : Value → Type 0
AcceptedValue absent = Unit {0}
AcceptedValue (text_value t) = (length t ≤ 255) × (utf8 t ≡ true)
AcceptedValue (number_value x) = T (fits binary32 x)
AcceptedValue (numbers_value xs) = T (all (fits binary32) xs) × (length xs ≤ 1024)
AcceptedValue (length_value u x) = Unit {0}
AcceptedValue (color_value k) = k.alpha ≤ 255
AcceptedValue (tries_value t) = Unit {0}

-- a node, each attribute by its id; its flood-opacity is in 0..1
pub record AcceptedNode (n : Node) : Type 0 where
  pub value : (id : ℕ) → AcceptedValue (value_under id n.attributes)
  pub opacity : T (opacity_ok (value_under aid_flood_opacity n.attributes))

abbrev pub EachAccepted : List Node → Type 0
EachAccepted [] = Unit {0}
EachAccepted (n ∷ ns) = AcceptedNode n × EachAccepted ns

pub record AcceptedNodes (ns : List Node) : Type 0 where
  pub few : length ns ≤ 512
  pub each : EachAccepted ns
