-- A child that gives none of x, y, width and height takes all four from the filter region, in user space and in box units alike: there is no number that the
-- units or the box could change. Assumes nothing.
use Rattle.std.specs.Prelude.{Some}
use mathlib.Core.Path.{◌≡◌}
use Rattle.geom.specs.declared.Rect.{Rect}
use Rattle.svgtree.specs.Values.{Node}
use Rattle.svgtree.specs.declared.Units.TheVariants as units
use Rattle.region.specs.declared.Frame.{Frame}
use Rattle.subregion.specs.Subregions.{rect_within, user_space_region, bbox_region, region_of}
use Rattle.subregion.specs.Absent.{NoneGiven, made_anew}

module _ (f : Frame) (n : Node) (none : NoneGiven n) where
  pub own_in_user_space : f.units ≡ units.UserSpaceOnUse → region_of f n ≡ made_anew f.region
  unfolding region_of user_space_region rect_within
  own_in_user_space u = rw (u, none.x, none.y, none.width, none.height)

  -- whatever the box is
  pub own_in_box_units : (box : Rect) → f.units ≡ units.ObjectBoundingBox → f.bbox ≡ Some box → region_of f n ≡ made_anew f.region
  unfolding region_of bbox_region rect_within
  own_in_box_units box u b = rw (u, b, none.x, none.y, none.width, none.height)

-- the same rectangle in both: of two frames with one region, the first in user space and the second in box units with a box
pub own_in_both : (f g : Frame) (n : Node) (box : Rect) → NoneGiven n → f.region ≡ g.region → f.units ≡ units.UserSpaceOnUse → g.units ≡ units.ObjectBoundingBox → g.bbox ≡ Some box
    → region_of f n ≡ region_of g n
own_in_both f g n box none r u v b = rw (own_in_user_space f n none u, own_in_box_units g n none box v b, r)
