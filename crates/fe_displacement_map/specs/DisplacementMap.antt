-- feDisplacementMap. Definitions only.
-- Filter Effects Module Level 1, feDisplacementMap: `scale` is 0 where absent, `xChannelSelector` and `yChannelSelector` are A.
use Rattle.answer.specs.declared.Refusal.{Refusal}
use Rattle.std.specs.Prelude.{ℕ, cond, List, [], ◌∷◌, Float, Err, Ok, Option, Result}
use Rattle.std.specs.Float.{binary32}
use Rattle.std.specs.Float.Ieee.{add, mul, div}
use Rattle.std.specs.Float.Ieee.Scale.{finite}
use Rattle.answer.specs.declared.Refusal.TheVariants.{Unrepresentable}
use Rattle.names.specs.Ids.{aid_scale, aid_x_channel_selector, aid_y_channel_selector}
use Rattle.num.specs.Constants.{plus_zero, two}
use Rattle.geom.specs.declared.Size.{Size}
use Rattle.svgtree.specs.Values.{Node}
use Rattle.svgtree.specs.Readers.{text_of}
use Rattle.tree.specs.declared.ColorChannel.{ColorChannel}
use Rattle.tree.specs.declared.ColorChannel.TheVariants.{R, G, B, A}
use Rattle.tree.specs.declared.DisplacementMap.{DisplacementMap}
use Rattle.fe.specs.Attributes.{number_or}
use Rattle.fe.specs.Keywords.{◌means◌, keyword}

-- a channel selector: A where it is absent or another text
abbrev pub channel_of : Option (List ℕ) → ColorChannel
channel_of t = keyword ("R" means R ∷ "G" means G ∷ "B" means B ∷ []) A t

-- width + height
abbrev pub box_sum : Size → Float
box_sum scale = add binary32 scale.width scale.height

-- The document: in box units `scale` is a fraction of the box's width along x, of its height along y (not certain). The crate: of their mean, on both axes.
abbrev pub displacement_with : Node → Float → DisplacementMap
displacement_with n sum =
    record {
      scale = mul binary32 (number_or n aid_scale plus_zero) (div binary32 sum two);
      x_channel_selector = channel_of (text_of n aid_x_channel_selector);
      y_channel_selector = channel_of (text_of n aid_y_channel_selector);
    }

-- "for feDisplacementMap in box units, box width + height isn't finite (the crate may give NaN)": a refusal, whatever `scale` is. In user space
-- the size is 1 by 1, and so is the sum finite.
abbrev pub displacement_map_of : Node → Size → Result DisplacementMap Refusal
displacement_map_of n scale = cond (finite (box_sum scale)) (Ok (displacement_with n (box_sum scale))) (Err Unrepresentable)
