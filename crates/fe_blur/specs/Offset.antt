-- feOffset. Definitions only.
-- Filter Effects Module Level 1: `dx` and `dy` are 0 where absent; of feDropShadow, which has them too, they are 2. In box units each number is a
-- fraction of the object's box: `scale` is the box's size there, and else 1 by 1.
use Rattle.std.specs.Prelude.{Float}
use Rattle.std.specs.Float.{binary32}
use Rattle.std.specs.Float.Ieee.{mul}
use Rattle.names.specs.Ids.{aid_dx, aid_dy}
use Rattle.num.specs.Constants.{plus_zero}
use Rattle.geom.specs.declared.Size.{Size}
use Rattle.svgtree.specs.Values.{Node}
use Rattle.tree.specs.declared.Offset.{Offset}
use Rattle.fe.specs.Attributes.{number_or}

-- `dx` and `dy`, scaled
abbrev pub offsets_of : Node → Size → Float → Offset
offsets_of n scale default =
    record {
      dx = mul binary32 (number_or n aid_dx default) scale.width;
      dy = mul binary32 (number_or n aid_dy default) scale.height;
    }

abbrev pub offset_fields_of : Node → Size → Offset
offset_fields_of n scale = offsets_of n scale plus_zero
