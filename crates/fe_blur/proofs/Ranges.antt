-- The numbers of these kinds are in their ranges, for every node and every scale that is finite. Assumes nothing.
use lib.Dec.{T, leb}
use lib.Ieee.{Float, binary32, of_bits, mul}
use Rattle.names.specs.Ids.{aid_std_deviation, aid_flood_opacity, aid_dx, aid_dy}
use Rattle.num.specs.Constants.{plus_zero, one, two}
use Rattle.num.specs.Numbers.{IsFinite}
use Rattle.num.specs.Sign.{positive, opacity_in}
use Rattle.num.proofs.Finite.{zero_finite}
use Rattle.geom.specs.declared.Size.{Size}
use Rattle.svgtree.specs.Values.{Node}
use Rattle.svgtree.specs.Readers.{tries_of}
use Rattle.fe.specs.Attributes.{number_or}
use Rattle.fe.proofs.Numbers.{scaled_num, made_positive}
use Rattle.fe_flood.specs.Flood.{flood_color}
use Rattle.fe_flood.proofs.Ranges.{flood_range}
use Rattle.fe_blur.specs.GaussianBlur.{deviation, numbers_or_default, gaussian_blur_of}
use Rattle.fe_blur.specs.Offset.{offset_fields_of}
use Rattle.fe_blur.specs.DropShadow.{drop_shadow_of}
use Rattle.fe_blur.specs.Ranges.{GaussianBlurRange, DropShadowRange}
use Rattle.fe_blur.specs.ProofRanges.{OffsetRange}

deviation_positive : (n scale : Float) → T (positive (deviation n scale))
unfolding deviation
deviation_positive n scale = made_positive (mul binary32 n scale)

pub gaussian_blur_range : (n : Node) (scale : Size) → GaussianBlurRange (gaussian_blur_of n scale)
gaussian_blur_range n scale =
    let p = numbers_or_default (tries_of n aid_std_deviation) plus_zero in
    record { deviation_x = deviation_positive p.x scale.width; deviation_y = deviation_positive p.y scale.height }

two_finite : IsFinite two
unfolding of_bits
two_finite = tt

module _ (n : Node) (scale : Size) (width : IsFinite scale.width) (height : IsFinite scale.height) where
  pub offset_range : OffsetRange (offset_fields_of n scale)
  offset_range =
      record {
        dx = scaled_num n aid_dx plus_zero scale.width zero_finite width;
        dy = scaled_num n aid_dy plus_zero scale.height zero_finite height;
      }

  -- a colour's alpha is a byte, and a sheet whose flood-opacity is out of range is refused
  pub drop_shadow_range : T (leb (flood_color n).alpha 255) → T (opacity_in (number_or n aid_flood_opacity one)) → DropShadowRange (drop_shadow_of n scale)
  drop_shadow_range alpha given =
      let p = numbers_or_default (tries_of n aid_std_deviation) two in
      record {
        dx = scaled_num n aid_dx two scale.width two_finite width;
        dy = scaled_num n aid_dy two scale.height two_finite height;
        deviation_x = deviation_positive p.x scale.width;
        deviation_y = deviation_positive p.y scale.height;
        opacity = (flood_range n alpha given).opacity;
      }
