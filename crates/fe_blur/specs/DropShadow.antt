-- feDropShadow. Definitions only.
-- Filter Effects Module Level 1: `dx`, `dy` and `stdDeviation` are those of feOffset and feGaussianBlur, but 2 where absent; the colour is that of
-- feFlood.
use Rattle.num.specs.Constants.{two}
use Rattle.geom.specs.declared.Size.{Size}
use Rattle.svgtree.specs.Values.{Node}
use Rattle.tree.specs.declared.DropShadow.{DropShadow}
use Rattle.fe_flood.specs.Flood.{flood_of}
use Rattle.fe_blur.specs.GaussianBlur.{deviations_of}
use Rattle.fe_blur.specs.Offset.{offsets_of}

abbrev pub drop_shadow_of : Node → Size → DropShadow
drop_shadow_of n scale =
    let o = offsets_of n scale two in
    let d = deviations_of n scale two in
    let f = flood_of n in
    record { dx = o.dx; dy = o.dy; std_dev_x = d.x; std_dev_y = d.y; color = f.color; opacity = f.opacity }
