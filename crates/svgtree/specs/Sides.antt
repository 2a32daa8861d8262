-- The attributes x, y, width and height of a node, all four at once. Definitions only.
use Rattle.std.specs.Prelude.{ℕ, ◌≡◌, List, Option}
use Rattle.names.specs.Ids.{aid_x, aid_y, aid_width, aid_height}
use Rattle.svgtree.specs.declared.Found.{Found}
use Rattle.svgtree.specs.declared.Length.{Length}
use Rattle.svgtree.specs.declared.sides.Sides.{Sides}
use Rattle.svgtree.specs.Values.{Attribute, Node}
use Rattle.svgtree.specs.Readers.{value_under, length_of}
use Rattle.svgtree.specs.Means.{found_is}

-- each is the value of the first attribute with its id
pub record FoundSides (s : List ℕ) (attributes : List Attribute) (r : Sides (Option Found)) : Type 0 where
  pub x : found_is s r.x ≡ value_under aid_x attributes
  pub y : found_is s r.y ≡ value_under aid_y attributes
  pub width : found_is s r.width ≡ value_under aid_width attributes
  pub height : found_is s r.height ≡ value_under aid_height attributes

pub record SidesOf (n : Node) (r : Sides (Option Length)) : Type 0 where
  pub x : r.x ≡ length_of n aid_x
  pub y : r.y ≡ length_of n aid_y
  pub width : r.width ≡ length_of n aid_width
  pub height : r.height ≡ length_of n aid_height
