-- feConvolveMatrix of the W3C document Filter Effects Module Level 1: the attributes `targetX` and `targetY`. Definitions only.
use Rattle.std.specs.Prelude.{ℕ, ◌/◌, cond, ltb, ℤ, pos, negsuc, Float, None, Option, Some}
use Rattle.std.specs.Float.Ieee.{to_signed}

-- a column or row, where there is such a one
abbrev pub target_below : ℕ → ℕ → Option ℕ
target_below t order = cond (ltb t order) (Some t) None

abbrev pub target_inside : ℤ → ℕ → Option ℕ
target_inside (pos t) order = target_below t order
target_inside (negsuc t) order = None

-- half of the order, rounded down, where no target is given; a given one is "cut toward zero to i32". The crate takes the half in f32, which is
-- the same number for every order that a kernel of at most 1,024 numbers can have.
abbrev pub given_or : Option Float → ℕ → ℤ
given_or (Some x) order = to_signed 31 x
given_or None order = pos (order / 2)

-- the column, or the row, that stands over the pixel. The document: a whole number below the order, and another is an error (not certain). The crate: a
-- fraction is cut toward zero, and for one outside the order, which is No here, the flood stands for the element.
unfoldable pub target_of : Option Float → ℕ → Option ℕ
target_of target order = target_inside (given_or target order) order
