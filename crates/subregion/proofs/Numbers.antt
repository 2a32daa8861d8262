-- A subregion exists, where there is one: its edges are finite and f32 holds them; and a scale is finite and above zero. Assumes nothing.
use Rattle.std.specs.Prelude.{Float, None, Option, Some}
use Prim.Native.Nat.{ℕ}
use mathlib.Core.Path.{◌≡◌, refl, subst}
use mathlib.Core.Bool.{true}
use lib.Dec.{T}
use lib.Ieee.{Float, binary32, of_bits, add, mul, lt, fits}
use lib.Ieee.Fits.{add-fits}
use lib.Ieee.Scale.{finite}
use Rattle.geom.specs.declared.Rect.{Rect}
use Rattle.geom.specs.declared.Size.{Size}
use Rattle.geom.specs.Geometry.{zero_f32, is_rect, width_of, height_of}
use Rattle.geom.proofs.Rectangles.{Made, made_size, EdgesFit, Fitted, fits_size, Numbers, rect_numbers_lem, width_above, height_above}
use Rattle.names.specs.Ids.{aid_x, aid_y, aid_width, aid_height}
use Rattle.svgtree.specs.Values.{Node}
use Rattle.svgtree.specs.Readers.{or_default}
use Rattle.svgtree.specs.declared.Units.{Units}
use Rattle.svgtree.specs.declared.Units.TheVariants as units
use Rattle.units.proofs.Lengths.{FiniteState, try_single, zero_one}
use Rattle.region.specs.declared.Frame.{Frame}
use Rattle.region.proofs.Regions.{no_rect, SoundFrame}
use Rattle.subregion.specs.Subregions.{given_number, rect_within, user_space_region, corner_in_box, side_in_box, bbox_region, region_by, region_of, unscaled, size_in, scale_in, scale_of}

-- ---- a rectangle within a region exists, whatever the four numbers are; and f32 holds its edges, where it holds the region's and those of x and y
within_made : (region : Rect) (x y w h : Option Float) → Made (rect_within region x y w h)
unfolding rect_within
within_made region x y w h = made_size (or_default x region.left) (or_default y region.top) (or_default w (width_of region)) (or_default h (height_of region))

abbrev AllFit : Option Float → Type 0
AllFit m = (v : Float) → m ≡ Some v → T (fits binary32 v)

or_fits : (m : Option Float) (def : Float) → AllFit m → T (fits binary32 def) → T (fits binary32 (or_default m def))
or_fits (Some v) def a d = a v refl
or_fits None def a d = d

within_fits : (region : Rect) (x y w h : Option Float) → EdgesFit region → AllFit x → AllFit y → Fitted (rect_within region x y w h)
unfolding rect_within
within_fits region x y w h r p q =
    fits_size (or_default x region.left) (or_default y region.top) (or_default w (width_of region)) (or_default h (height_of region))
    (or_fits x region.left p r.fits_left) (or_fits y region.top q r.fits_top)

given_fit : (f : Frame) (n : Node) (aid : ℕ) → FiniteState f.state → AllFit (given_number f n aid)
given_fit f n aid s v e = (try_single n aid f.units f.state s v e).fits32

-- an f32 sum is an f32 number
corner_fit : (m : Option Float) (side corner : Float) → AllFit (corner_in_box m side corner)
corner_fit (Some v) side corner x e =
    let i : add binary32 (mul binary32 v side) corner ≡ x = cc in
    subst (λ (z : Float). T (fits binary32 z)) i (add-fits binary32 (mul binary32 v side) corner)
corner_fit None side corner x e = let z : ◌≡◌ {A = ℕ} 0 1 = cc in absurd (zero_one z)

-- ---- a subregion exists, and f32 holds its edges; its numbers, width and height included, are finite
made_by : (u : Units) (b : Option Rect) (f : Frame) (n : Node) → Made (region_by u b f n)
unfolding user_space_region bbox_region
made_by units.UserSpaceOnUse b f n = within_made f.region (given_number f n aid_x) (given_number f n aid_y) (given_number f n aid_width) (given_number f n aid_height)
made_by units.ObjectBoundingBox (Some b) f n =
    within_made f.region
    (corner_in_box (given_number f n aid_x) (width_of b) b.left) (corner_in_box (given_number f n aid_y) (height_of b) b.top)
    (side_in_box (given_number f n aid_width) (width_of b)) (side_in_box (given_number f n aid_height) (height_of b))
made_by units.ObjectBoundingBox None f n = no_rect (λ (r : Rect). T (is_rect r))

fitted_by : (u : Units) (b : Option Rect) (f : Frame) (n : Node) → SoundFrame f → Fitted (region_by u b f n)
unfolding user_space_region bbox_region
fitted_by units.UserSpaceOnUse b f n s =
    within_fits f.region (given_number f n aid_x) (given_number f n aid_y) (given_number f n aid_width) (given_number f n aid_height)
    s.region_fits (given_fit f n aid_x s.state) (given_fit f n aid_y s.state)
fitted_by units.ObjectBoundingBox (Some b) f n s =
    let x = given_number f n aid_x in
    let y = given_number f n aid_y in
    within_fits f.region
    (corner_in_box x (width_of b) b.left) (corner_in_box y (height_of b) b.top)
    (side_in_box (given_number f n aid_width) (width_of b)) (side_in_box (given_number f n aid_height) (height_of b))
    s.region_fits (corner_fit x (width_of b) b.left) (corner_fit y (height_of b) b.top)
fitted_by units.ObjectBoundingBox None f n s = no_rect EdgesFit

pub subregion_fits : (f : Frame) (n : Node) (q : Rect) → SoundFrame f → region_of f n ≡ Some q → EdgesFit q
unfolding region_of
subregion_fits f n q s e = fitted_by f.units f.bbox f n s q e

pub subregion_numbers : (f : Frame) (n : Node) (q : Rect) → region_of f n ≡ Some q → Numbers q
unfolding region_of
subregion_numbers f n q e = rect_numbers_lem q (made_by f.units f.bbox f n q e)

-- ---- the scale
pub record Positive (s : Size) : Type 0 where
  pub width_finite : T (finite s.width)
  pub height_finite : T (finite s.height)
  pub width_positive : lt zero_f32 s.width ≡ true
  pub height_positive : lt zero_f32 s.height ≡ true

unscaled_positive : Positive unscaled
unfolding of_bits lt
unscaled_positive = record { width_finite = tt; height_finite = tt; width_positive = refl; height_positive = refl }

size_positive : (b : Option Rect) → Made b → Fitted b → Positive (size_in b)
size_positive (Some r) m f =
    let t = m r refl in
    let k = rect_numbers_lem r t in
    record { width_finite = k.width.0; height_finite = k.height.0; width_positive = width_above r t (f r refl); height_positive = height_above r t (f r refl) }
size_positive None m f = unscaled_positive

scale_in_positive : (u : Units) (b : Option Rect) → Made b → Fitted b → Positive (scale_in u b)
scale_in_positive units.UserSpaceOnUse b m f = unscaled_positive
scale_in_positive units.ObjectBoundingBox b m f = size_positive b m f

pub scale_positive : (f : Frame) → SoundFrame f → Positive (scale_of f)
unfolding scale_of
scale_positive f s = scale_in_positive f.units f.bbox s.bbox_made s.bbox_fits
