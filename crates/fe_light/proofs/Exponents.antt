-- What `contains` tells of a range of f32 is what the definition's two tests tell. Assumes nothing.
use Rattle.std.specs.Prelude.{None, Some}
use Rattle.std.specs.Ordering.{is_some_and, is_le, partial_le, float_partial_cmp}
use Rattle.std.specs.declared.cmp.Ordering.TheVariants.{Less, Equal, Greater}
use mathlib.Core.Path.{◌≡◌, refl}
use mathlib.Core.Bool.{Bool, true, false, cond, ◌&&◌, ◌||◌}
use lib.Ieee.{Float, lt, eq, le}

le_is : (x y : Float) → partial_le float_partial_cmp x y ≡ le x y
unfolding le
le_is x y = by_tests (lt x y) (eq x y) (lt y x)
  where
    by_tests : (a b c : Bool) → is_some_and is_le (cond a (Some Less) (cond b (Some Equal) (cond c (Some Greater) None))) ≡ (a || b)
    by_tests true b c = refl
    by_tests false true c = refl
    by_tests false false true = refl
    by_tests false false false = refl

pub within : (a b x : Float) → (partial_le float_partial_cmp a x && partial_le float_partial_cmp x b) ≡ (le a x && le x b)
within a b x = rw (le_is a x, le_is x b) refl
