-- The filter region exists, where there is one: its edges are finite and f32 holds them; and what a frame that is made of a sheet holds.
-- Assumes nothing.
use Rattle.std.specs.Prelude.{Err, None, Ok, Option, Some}
use Rattle.std.proofs.lemmas.Option.{none-some}
use Prim.Native.Nat.{ℕ}
use mathlib.Core.Path.{◌≡◌, refl, subst}
use mathlib.Core.Bool.{Bool, true, false, cond}
use mathlib.Core.List.{List}
use mathlib.Core.Logic.{◌⊎◌, inl, inr}
use lib.ListN.{get_or}
use lib.Dec.{T, eqb}
use lib.Ieee.{binary32, of_bits}
use lib.Ieee.Bits.{of_bits-fits}
use Rattle.answer.specs.declared.Refusal.{Refusal}
use Rattle.answer.specs.declared.Refusal.TheVariants.{NoRegion, Unrepresentable}
use Rattle.bits.specs.Bytes.{le32}
use Rattle.num.specs.Narrowed.{or_zero}
use Rattle.num.proofs.Finite.{or_zero_finite, or_zero_fits}
use Rattle.geom.specs.declared.Rect.{Rect}
use Rattle.geom.specs.Geometry.{is_rect, placed}
use Rattle.geom.proofs.Rectangles.{Made, made_size, made_placed, EdgesFit, Fitted, fits_size, fits_placed}
use Rattle.names.specs.Ids.{aid_x, aid_y}
use Rattle.svgtree.specs.Values.{Header, Bounds}
use Rattle.svgtree.specs.Parse.{header_of, bounds_at, single}
use Rattle.svgtree.specs.Readers.{rect_of, box_of, filter_x_of, filter_y_of, filter_font_size_of}
use Rattle.svgtree.specs.declared.Units.{Units}
use Rattle.svgtree.specs.declared.Units.TheVariants as units
use Rattle.units.specs.declared.State.{State}
use Rattle.units.specs.Lengths.{percent}
use Rattle.units.proofs.Lengths.{FiniteState, Single, ReadLength, resolve_single, readable, zero_one}
use Rattle.region.specs.declared.Frame.{Frame}
use Rattle.region.specs.Region.{minus_ten, filter_units_of, state_of, filter_x_in, filter_y_in, filter_width_in, filter_height_in, filter_rect_in, placed_in, region_in, filter_region_of, frame_of}

-- ---- what holds of the rectangle and of everything that is placed holds of the region
module _ (P : Rect → Type 0) where
  placed_all : (m : Option Rect) → ((q : Rect) → m ≡ Some q → P q) → (q : Rect) → placed_in m ≡ Ok q → P q
  placed_all (Some r) f q e = let i : r ≡ q = cc in subst P i (f r refl)
  placed_all None f q e = let z : ◌≡◌ {A = ℕ} 0 1 = cc in absurd (zero_one z)

  region_all : (u : Units) (m b : Option Rect) → ((q : Rect) → m ≡ Some q → P q) → ((r c q : Rect) → placed r c ≡ Some q → P q) → (q : Rect) → region_in u m b ≡ Ok q → P q
  region_all units.UserSpaceOnUse None b f g q e = let z : ◌≡◌ {A = ℕ} 0 1 = cc in absurd (zero_one z)
  region_all units.ObjectBoundingBox None b f g q e = let z : ◌≡◌ {A = ℕ} 0 1 = cc in absurd (zero_one z)
  region_all units.UserSpaceOnUse (Some r) b f g q e = let i : r ≡ q = cc in subst P i (f r refl)
  region_all units.ObjectBoundingBox (Some r) None f g q e = let z : ◌≡◌ {A = ℕ} 0 1 = cc in absurd (zero_one z)
  region_all units.ObjectBoundingBox (Some r) (Some c) f g q e = placed_all (placed r c) (g r c) q e

-- a region exists, and f32 holds its edges where it holds those of the filter's rectangle
pub region_made : (u : Units) (m b : Option Rect) → Made m → (q : Rect) → region_in u m b ≡ Ok q → T (is_rect q)
region_made u m b h q e = region_all (λ (r : Rect). T (is_rect r)) u m b h made_placed q e

pub region_fits : (u : Units) (m b : Option Rect) → Fitted m → (q : Rect) → region_in u m b ≡ Ok q → EdgesFit q
region_fits u m b h q e = region_all EdgesFit u m b h fits_placed q e

-- ---- why there is no region: 5, or 6
pub region_refusal : (u : Units) (m b : Option Rect) (why : Refusal) → region_in u m b ≡ Err why → (why ≡ NoRegion) ⊎ (why ≡ Unrepresentable)
region_refusal units.UserSpaceOnUse None b why e = inl (cc)
region_refusal units.ObjectBoundingBox None b why e = inl (cc)
region_refusal units.UserSpaceOnUse (Some r) b why e = inl (cc)
region_refusal units.ObjectBoundingBox (Some r) None why e = inl (cc)
region_refusal units.ObjectBoundingBox (Some r) (Some c) why e = inr (go (placed r c) e)
  where
    go : (m : Option Rect) → placed_in m ≡ Err why → why ≡ Unrepresentable
    go (Some q) e = cc
    go None e = cc

-- ---- the filter element's rectangle
pub state_finite : (h : Header) → FiniteState (state_of h)
state_finite h = record { width = or_zero_finite h.view_box_width; height = or_zero_finite h.view_box_height; dpi = or_zero_finite h.dpi }

-- the default of x and y
ten : ReadLength (percent minus_ten)
unfolding of_bits
ten = record { finite_number = tt; fits_number = of_bits-fits binary32 0xc120_0000 }

module _ (h : Header) (u : Units) (state : State) (f : FiniteState state) where
  pub x_single : Single (filter_x_in h u state)
  x_single = resolve_single (filter_x_of h) aid_x u state (filter_font_size_of h) (percent minus_ten) (readable h.x) f (or_zero_finite h.font_size) ten

  pub y_single : Single (filter_y_in h u state)
  y_single = resolve_single (filter_y_of h) aid_y u state (filter_font_size_of h) (percent minus_ten) (readable h.y) f (or_zero_finite h.font_size) ten

  rect_fits : Fitted (filter_rect_in h u state)
  unfolding filter_rect_in
  rect_fits = fits_size (filter_x_in h u state) (filter_y_in h u state) (filter_width_in h u state) (filter_height_in h u state) x_single.fits32 y_single.fits32

rect_made : (h : Header) (u : Units) (state : State) → Made (filter_rect_in h u state)
unfolding filter_rect_in
rect_made h u state = made_size (filter_x_in h u state) (filter_y_in h u state) (filter_width_in h u state) (filter_height_in h u state)

-- ---- the object's bounding box
pub no_rect : (P : Rect → Type 0) (q : Rect) → None ≡ Some q → P q
no_rect P q e = absurd (none-some q e)

bounds_made : (b : Option Bounds) → Made (rect_of b)
bounds_made None = no_rect (λ (r : Rect). T (is_rect r))
bounds_made (Some b) = made_size (or_zero b.x) (or_zero b.y) (or_zero b.width) (or_zero b.height)

pub box_made : (h : Header) → Made (box_of h)
box_made h = bounds_made h.box

bounds_fits : (t : Bool) (s : List ℕ) → Fitted (rect_of (cond t (Some (bounds_at s 4)) None))
bounds_fits true s =
    fits_size (or_zero (single s 4)) (or_zero (single s 8)) (or_zero (single s 12)) (or_zero (single s 16))
    (or_zero_fits (single s 4) (of_bits-fits binary32 (le32 s 4))) (or_zero_fits (single s 8) (of_bits-fits binary32 (le32 s 8)))
bounds_fits false s = no_rect EdgesFit

pub box_fits : (s : List ℕ) → Fitted (box_of (header_of s))
unfolding header_of
box_fits s = bounds_fits (eqb (get_or s 2 0) 1) s

-- ---- a frame: its region and its bounding box exist, f32 holds their edges, and its other numbers are finite
pub record SoundFrame (f : Frame) : Type 0 where
  pub region_made : T (is_rect f.region)
  pub region_fits : EdgesFit f.region
  pub bbox_made : Made f.bbox
  pub bbox_fits : Fitted f.bbox
  pub state : FiniteState f.state

pub frame_sound : (s : List ℕ) (q : Rect) → filter_region_of (header_of s) ≡ Ok q → SoundFrame (frame_of (header_of s) q)
unfolding filter_region_of
frame_sound s q e =
    let h = header_of s in
    let u = filter_units_of h in
    record {
      region_made = region_made u (filter_rect_in h u (state_of h)) (box_of h) (rect_made h u (state_of h)) q e;
      region_fits = region_fits u (filter_rect_in h u (state_of h)) (box_of h) (rect_fits h u (state_of h) (state_finite h)) q e;
      bbox_made = box_made h;
      bbox_fits = box_fits s;
      state = state_finite h;
    }
