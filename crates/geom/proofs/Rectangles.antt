-- What holds of a rectangle that exists: its edges are finite, and its width and height are finite and above zero. Assumes nothing.
use Rattle.std.specs.Prelude.{None, Option, Some}
use Rattle.std.proofs.lemmas.Option.{none-some}
use mathlib.Core.Path.{◌≡◌, subst}
use mathlib.Core.Bool.{Bool, true, false, ◌&&◌}
use lib.Dec.{T}
use lib.Ieee.{Float, binary32, binary64, add, sub, mul, lt, fits}
use lib.Ieee.Scale.{finite}
use lib.Ieee.Fits.{and_l, and_r, add-fits}
use lib.Ieee.Bits.{is_true}
use Rattle.num.specs.Numbers.{IsNumber}
use Rattle.num.proofs.Laws.{finite_num, plus, gap_finite}
use Rattle.geom.proofs.Gaps.{gap_above}
use Rattle.geom.specs.declared.Rect.{Rect}
use Rattle.geom.specs.Geometry.{zero_f32, largest, side, pick_rect, is_rect, of_edges, of_size, placed, width_of, height_of}

-- ---- a rectangle that was made exists
-- what an arm that binds q may say of it
abbrev pub Made : Option Rect → Type 0
Made m = (q : Rect) → m ≡ Some q → T (is_rect q)

picked : (p : Bool) (x : Rect) (P : Rect → Type 0) → (T p → P x) → (q : Rect) → pick_rect p (Some x) None ≡ Some q → P q
picked true x P f q e = let i : x ≡ q = cc in subst P i (f tt)
picked false x P f q e = absurd (none-some q e)

pub made_edges : (l t r b : Float) → Made (of_edges l t r b)
unfolding of_edges
made_edges l t r b = picked (side l r && side t b) (record { left = l; top = t; right = r; bottom = b }) (λ (q : Rect). T (is_rect q)) (λ h. h)

pub made_size : (x y w h : Float) → Made (of_size x y w h)
made_size x y w h = made_edges x y (add binary32 x w) (add binary32 y h)

pub made_placed : (r b : Rect) → Made (placed r b)
made_placed r b =
    made_size (add binary32 (mul binary32 r.left (width_of b)) b.left) (add binary32 (mul binary32 r.top (height_of b)) b.top)
    (mul binary32 (width_of r) (width_of b)) (mul binary32 (height_of r) (height_of b))

-- ---- f32 holds its edges, where it holds what they were made of; a placed rectangle's are results of f32 sums
pub record EdgesFit (r : Rect) : Type 0 where
  pub fits_left : T (fits binary32 r.left)
  pub fits_top : T (fits binary32 r.top)
  pub fits_right : T (fits binary32 r.right)
  pub fits_bottom : T (fits binary32 r.bottom)

abbrev pub Fitted : Option Rect → Type 0
Fitted m = (q : Rect) → m ≡ Some q → EdgesFit q

pub fits_edges : (l t r b : Float) → T (fits binary32 l) → T (fits binary32 t) → T (fits binary32 r) → T (fits binary32 b) → Fitted (of_edges l t r b)
unfolding of_edges
fits_edges l t r b fl ft fr fb =
    picked (side l r && side t b) (record { left = l; top = t; right = r; bottom = b }) EdgesFit
    (λ h. record { fits_left = fl; fits_top = ft; fits_right = fr; fits_bottom = fb })

pub fits_size : (x y w h : Float) → T (fits binary32 x) → T (fits binary32 y) → Fitted (of_size x y w h)
fits_size x y w h fx fy = fits_edges x y (add binary32 x w) (add binary32 y h) fx fy (add-fits binary32 x w) (add-fits binary32 y h)

pub fits_placed : (r b : Rect) → Fitted (placed r b)
fits_placed r b =
    let x = mul binary32 r.left (width_of b) in
    let y = mul binary32 r.top (height_of b) in
    fits_size (add binary32 x b.left) (add binary32 y b.top) (mul binary32 (width_of r) (width_of b)) (mul binary32 (height_of r) (height_of b)) (add-fits binary32 x b.left) (add-fits binary32 y b.top)

-- ---- the parts of `side`
pub record SideParts (a b : Float) : Type 0 where
  pub near : T (finite a)
  pub far : T (finite b)
  pub ordered : lt a b ≡ true
  pub short : lt (sub binary64 b a) largest ≡ true

pub side_parts : (a b : Float) → T (side a b) → SideParts a b
unfolding side
side_parts a b t =
    let D = lt (sub binary64 b a) largest in
    let u : T (finite a && finite b && lt a b) = and_l (finite a && finite b && lt a b) D t in
    let v : T (finite a && finite b) = and_l (finite a && finite b) (lt a b) u in
    record {
      near = and_l (finite a) (finite b) v;
      far = and_r (finite a) (finite b) v;
      ordered = is_true (lt a b) (and_r (finite a && finite b) (lt a b) u);
      short = is_true D (and_r (finite a && finite b && lt a b) D t);
    }

-- ---- the numbers of a rectangle that exists
-- a finite number, so no NaN
abbrev pub Number : Float → Type 0
Number x = T (finite x) × IsNumber x

known : (x : Float) → T (finite x) → Number x
known x t = (t, finite_num x t)

pub record Numbers (r : Rect) : Type 0 where
  pub x : Number r.left
  pub y : Number r.top
  pub right_edge : Number r.right
  pub bottom_edge : Number r.bottom
  pub width : Number (width_of r)
  pub height : Number (height_of r)
  pub width_plus : T (plus (width_of r))
  pub height_plus : T (plus (height_of r))

side_length : {a b : Float} → SideParts a b → T (finite (sub binary32 b a)) × T (plus (sub binary32 b a))
side_length {a} {b} s = gap_finite b a s.far s.near s.ordered s.short

across : (r : Rect) → T (is_rect r) → SideParts r.left r.right
across r t = side_parts r.left r.right (and_l (side r.left r.right) (side r.top r.bottom) t)

along : (r : Rect) → T (is_rect r) → SideParts r.top r.bottom
along r t = side_parts r.top r.bottom (and_r (side r.left r.right) (side r.top r.bottom) t)

pub rect_numbers_lem : (r : Rect) → T (is_rect r) → Numbers r
rect_numbers_lem r t =
    let a = across r t in
    let d = along r t in
    let w = side_length a in
    let h = side_length d in
    record {
      x = known r.left a.near;
      y = known r.top d.near;
      right_edge = known r.right a.far;
      bottom_edge = known r.bottom d.far;
      width = known (width_of r) w.0;
      height = known (height_of r) h.0;
      width_plus = w.1;
      height_plus = h.1;
    }

-- the width and the height are above zero, where f32 holds the edges
pub width_above : (r : Rect) → T (is_rect r) → EdgesFit r → lt zero_f32 (width_of r) ≡ true
width_above r t f = let s = across r t in gap_above r.right r.left f.fits_right f.fits_left s.far s.near s.ordered

pub height_above : (r : Rect) → T (is_rect r) → EdgesFit r → lt zero_f32 (height_of r) ≡ true
height_above r t f = let s = along r t in gap_above r.bottom r.top f.fits_bottom f.fits_top s.far s.near s.ordered
