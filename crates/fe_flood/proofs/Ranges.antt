-- A flood's opacity is in its range: it is a product of two opacities. Assumes nothing.
use lib.Dec.{T, leb}
use lib.Ieee.{of_bits, le}
use Rattle.names.specs.Ids.{aid_flood_opacity}
use Rattle.num.specs.Constants.{one}
use Rattle.num.specs.Sign.{opacity_in}
use Rattle.svgtree.specs.Values.{Node}
use Rattle.fe.specs.Attributes.{number_or}
use Rattle.fe_flood.specs.Flood.{flood_color, alpha_opacity, flood_of, transparent_black}
use Rattle.fe_flood.specs.Ranges.{FloodRange}
use Rattle.fe_flood.proofs.Opacity.{mul_ok, alpha_ok}

-- a colour's alpha is a byte, and a sheet whose flood-opacity is out of range is refused
module _ (n : Node) (alpha : T (leb (flood_color n).alpha 255)) (given : T (opacity_in (number_or n aid_flood_opacity one))) where
  pub flood_range : FloodRange (flood_of n)
  flood_range = record { opacity = mul_ok (alpha_opacity (flood_color n).alpha) (number_or n aid_flood_opacity one) (alpha_ok (flood_color n).alpha alpha) given }

pub transparent_black_range : FloodRange transparent_black
unfolding opacity_in of_bits le
transparent_black_range = record { opacity = tt }
