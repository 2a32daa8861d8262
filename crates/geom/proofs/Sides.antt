-- What the tests of `is_side` say. Assumes nothing.
use mathlib.Core.Path.{◌≡◌, refl, sym, ap, ◌∙◌}
use mathlib.Core.Bool.{Bool, true, false, ◌&&◌, true≢false}
use lib.Ieee.{Float, nan, inf, fin, binary64, neg, add, sub, lt}
use lib.Ieee.Scale.{finite}
use Rattle.geom.specs.Geometry.{largest, side}

-- where a < b, a difference below the largest f32 says that both are finite
pub side_below : (a b : Float) → lt a b ≡ true → lt (sub binary64 b a) largest ≡ side a b
unfolding side lt sub add neg
side_below nan b h = absurd (true≢false (sym h))
side_below (inf true) nan h = refl
side_below (inf true) (inf true) h = refl
side_below (inf true) (inf false) h = refl
side_below (inf true) (fin t n d) h = refl
side_below (inf false) nan h = refl
side_below (inf false) (inf true) h = absurd (true≢false (sym h))
side_below (inf false) (inf false) h = absurd (true≢false (sym h))
side_below (inf false) (fin t n d) h = absurd (true≢false (sym h))
side_below (fin s m e) nan h = absurd (true≢false (sym h))
side_below (fin s m e) (inf true) h = sym h
side_below (fin s m e) (inf false) h = refl
side_below (fin s m e) (fin t n d) h = ap (λ (w : Bool). w && lt (sub binary64 (fin t n d) (fin s m e)) largest) (sym h)

and_no : (p q r : Bool) → false ≡ p && q && false && r
and_no true true r = refl
and_no true false r = refl
and_no false q r = refl

pub side_not_below : (a b : Float) → lt a b ≡ false → false ≡ side a b
unfolding side
side_not_below a b h = and_no (finite a) (finite b) (lt (sub binary64 b a) largest) ∙ ap (λ (w : Bool). finite a && finite b && w && lt (sub binary64 b a) largest) (sym h)
