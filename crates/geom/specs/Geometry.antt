-- Rectangles of f32 numbers: which exist, how one is made of a corner and a size, and how one is placed in another. Definitions only.
-- `add`, `sub` and `mul` at `binary32` are the f32 operations: each gives the exact result rounded once, to nearest, ties to even.
use Rattle.std.specs.Prelude.{Bool, true, false, ◌&&◌, pos, Float, None, Option, Some}
use Rattle.std.specs.Float.{fin, binary32, binary64}
use Rattle.std.specs.Float.Ieee.{add, sub, mul, lt}
use Rattle.std.specs.Float.Ieee.Scale.{finite}
use Rattle.geom.specs.declared.Rect.{Rect}
use Rattle.geom.specs.declared.Size.{Size}

-- zero, and the largest f32: (2 ^ 24 - 1) * 2 ^ 104
abbrev pub zero_f32 : Float
zero_f32 = fin false 0 (pos 0)

abbrev pub largest : Float
largest = fin false 16777215 (pos 104)

-- A side lies between the edges a and b: both are finite, a is below b, and b - a, taken in f64, lies below the largest f32.
-- That difference is itself rounded, so it can be the largest f32 where the exact one is smaller.
unfoldable pub side : Float → Float → Bool
side a b = finite a && finite b && lt a b && lt (sub binary64 b a) largest

-- x where the test holds, and else y
abbrev pub pick_rect : Bool → Option Rect → Option Rect → Option Rect
pick_rect true x y = x
pick_rect false x y = y

-- a rectangle exists if left and right are the edges of a side, and top and bottom too
abbrev pub is_rect : Rect → Bool
is_rect r = side r.left r.right && side r.top r.bottom

-- the rectangle with these edges, if it exists
unfoldable pub of_edges : Float → Float → Float → Float → Option Rect
of_edges left top right bottom =
    let r : Rect = record { left = left; top = top; right = right; bottom = bottom } in
    pick_rect (is_rect r) (Some r) None

-- the rectangle with this corner and size, if it exists: its edges are x, y, x + width, y + height, each rounded once
abbrev pub of_size : Float → Float → Float → Float → Option Rect
of_size x y width height = of_edges x y (add binary32 x width) (add binary32 y height)

-- the width is right - left, rounded, and not the width that the rectangle was made from; the height likewise
abbrev pub width_of : Rect → Float
width_of r = sub binary32 r.right r.left

abbrev pub height_of : Rect → Float
height_of r = sub binary32 r.bottom r.top

abbrev pub size_of : Rect → Size
size_of r = record { width = width_of r; height = height_of r }

-- r placed in b, if there is such a rectangle: x is r's x × b's width + b's x, and the width is r's width × b's width; y and the height likewise, by b's height and y.
-- Each product and each sum is rounded once, the product before the sum.
abbrev pub placed : Rect → Rect → Option Rect
placed r b =
    of_size
    (add binary32 (mul binary32 r.left (width_of b)) b.left)
    (add binary32 (mul binary32 r.top (height_of b)) b.top)
    (mul binary32 (width_of r) (width_of b))
    (mul binary32 (height_of r) (height_of b))

-- a length: above zero and finite
unfoldable pub valid_length : Float → Bool
valid_length x = lt zero_f32 x && finite x

-- the width or the height of a view box: above zero, finite, and not the largest f32
unfoldable pub view_box_length : Float → Bool
view_box_length x = lt zero_f32 x && finite x && lt x largest
