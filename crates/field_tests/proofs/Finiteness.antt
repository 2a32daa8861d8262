-- What `take_single` and `take_number` tell of a number, and that a number that is not finite fails every test of refusal 3. Assumes nothing.
use Rattle.std.specs.Prelude.{None, Some, cond, ◌||◌}
use Rattle.std.proofs.Common.{Less, Equal, Greater}
use Rattle.std.specs.Ordering.{is_some_and, is_le, partial_le, partial_lt, float_partial_cmp}
use mathlib.Core.Path.{◌≡◌, refl, ◌∙◌}
use mathlib.Core.Bool.{Bool, true, false, ◌&&◌}
use lib.Ieee.{Float, nan, inf, fin, of_bits, eq, lt, le}
use lib.Ieee.Scale.{finite}
use Rattle.num.specs.Narrowed.{narrowed}
use Rattle.num.specs.Means.{if_finite, pick_number}
use Rattle.num.specs.Sign.{opacity_in}
use Rattle.geom.specs.Geometry.{zero_f32, valid_length, view_box_length}
use Rattle.field_tests.specs.Tests.{double_ok}

picked : (x y : Float) (t : Bool) → pick_number t (Some x) None ≡ Some y → t ≡ true
picked x y true e = refl
picked x y false e = cc

picked_is : (x y : Float) (t : Bool) → pick_number t (Some x) None ≡ Some y → x ≡ y
picked_is x y true e = cc
picked_is x y false e = cc

picked_not : (x : Float) (t : Bool) → pick_number t (Some x) None ≡ None → t ≡ false
picked_not x true e = cc
picked_not x false e = refl

pub finite_yes : (x y : Float) → if_finite x ≡ Some y → finite x ≡ true
unfolding if_finite
finite_yes x y e = picked x y (finite x) e

pub finite_is : (x y : Float) → if_finite x ≡ Some y → x ≡ y
unfolding if_finite
finite_is x y e = picked_is x y (finite x) e

pub finite_no : (x : Float) → if_finite x ≡ None → finite x ≡ false
unfolding if_finite
finite_no x e = picked_not x (finite x) e

-- what is finite when narrowed is finite as given
pub double_narrowed : (x : Float) → double_ok x ≡ finite (narrowed x)
unfolding double_ok narrowed
double_narrowed nan = refl
double_narrowed (inf s) = refl
double_narrowed (fin s m e) = refl

and_false : (a b : Bool) → b ≡ false → (a && b) ≡ false
and_false true b e = e
and_false false b e = refl

pub no_length : (x : Float) → finite x ≡ false → valid_length x ≡ false
unfolding valid_length
no_length x e = and_false (lt zero_f32 x) (finite x) e

pub no_view_box_length : (x : Float) → finite x ≡ false → view_box_length x ≡ false
unfolding view_box_length
no_view_box_length x e = rw (and_false (lt zero_f32 x) (finite x) e)

pub no_opacity : (x : Float) → finite x ≡ false → opacity_in x ≡ false
unfolding opacity_in le of_bits
no_opacity nan e = refl
no_opacity (inf true) e = refl
no_opacity (inf false) e = refl
no_opacity (fin s m k) e = cc

-- `<=` by the order that a range's `contains` goes by

ordered : (l e g : Bool) → is_some_and is_le (cond l (Some Less) (cond e (Some Equal) (cond g (Some Greater) None))) ≡ (l || e)
ordered true e g = refl
ordered false true g = refl
ordered false false true = refl
ordered false false false = refl

le_ordered : (x y : Float) → partial_le float_partial_cmp x y ≡ le x y
unfolding le
le_ordered x y = ordered (lt x y) (eq x y) (lt y x)

-- what `contains` tells of a range of floats, by its bounds
pub within_bounds : (x s e low high : Float) (spent b : Bool) → s ≡ low → e ≡ high → spent ≡ false → b ≡ (partial_le float_partial_cmp s x && cond spent (partial_lt float_partial_cmp x e) (partial_le float_partial_cmp x e)) → b ≡ (le low x && le x high)
within_bounds x s e low high spent b p q r v = v ∙ rw (p, q, r, le_ordered, le_ordered)

-- what is told of a number that is taken
pub ruleset taken = (finite_yes, finite_is, finite_no, double_narrowed, no_length, no_view_box_length, no_opacity)
