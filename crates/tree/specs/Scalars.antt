-- Numbers, bools, options, colours, rectangles and lists of numbers, as the list has them. Definitions only.
use Rattle.std.specs.Prelude.{ℕ, ◌-◌, List, [], ◌∷◌, ◌++◌, Bool, true, false, length, ℤ, pos, negsuc, Float, None, Option, Some}
use Rattle.bits.specs.Bytes.{bytes16, bytes32, bytes_f}
use Rattle.geom.specs.declared.Rect.{Rect}
use Rattle.geom.specs.Geometry.{width_of, height_of}
use Rattle.tree.specs.declared.Color.{Color}

-- "Option and bool as one byte, then any value"
abbrev pub bool_byte : Bool → ℕ
bool_byte false = 0
bool_byte true = 1

unfoldable pub option_bytes : Option Float → List ℕ
option_bytes None = 0 ∷ []
option_bytes (Some x) = (1 ∷ []) ++ bytes_f x

-- an i32 in two's complement: -(n + 1) is written as 2 ^ 32 - (n + 1)
abbrev pub twos_complement : ℤ → ℕ
twos_complement (pos n) = n
twos_complement (negsuc n) = 4294967295 - n

unfoldable pub i32_bytes : ℤ → List ℕ
i32_bytes z = bytes32 (twos_complement z)

-- red, green, blue
unfoldable pub color_bytes : Color → List ℕ
color_bytes c = (c.red ∷ []) ++ (c.green ∷ []) ++ (c.blue ∷ [])

-- "a rectangle as x, y, width, height": the width is right - left, rounded once, and the height bottom - top
unfoldable pub rect_bytes : Rect → List ℕ
rect_bytes r = bytes_f r.left ++ bytes_f r.top ++ bytes_f (width_of r) ++ bytes_f (height_of r)

-- numbers one after the other
unfoldable pub run_bytes : List Float → List ℕ
run_bytes [] = []
run_bytes (x ∷ xs) = bytes_f x ++ run_bytes xs

-- "text and Vec with a u16 count"
unfoldable pub numbers_bytes : List Float → List ℕ
numbers_bytes xs = bytes16 (length xs) ++ run_bytes xs
