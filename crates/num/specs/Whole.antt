-- Floats as whole numbers: to the nearest, a half to the even one or away from zero. Definitions only.
-- The size of a finite float is a fraction: a parts, c of which make 1, where c is a power of two. `a / c` is its whole part.
use Prim.Native.Nat.{ℕ, ◌+◌, ◌-◌, ◌*◌, ◌/◌, ◌%◌, min, compare, Ordering}
use Rattle.std.specs.Prelude.{cond, eqb, Float}
use Rattle.std.specs.Float.{nan, inf, fin, binary32}
use Rattle.std.specs.Float.Ieee.{up, down, round}

-- ---- a half to the even one

-- how many parts the fraction lies above its whole part, and how many below the next whole number
abbrev pub above_lower : ℕ → ℕ → ℕ
above_lower a c = a - a / c * c

abbrev pub below_upper : ℕ → ℕ → ℕ
below_upper a c = (a / c + 1) * c - a

-- the even one of w and w + 1
abbrev pub even_of : ℕ → ℕ
even_of w = cond (eqb (w % 2) 0) w (w + 1)

-- the nearer one of w and w + 1, by how the distance from w compares with the distance from w + 1; of two equally near ones the even one
abbrev pub nearer_of : ℕ → Ordering → ℕ
nearer_of w Ordering.lt = w
nearer_of w Ordering.eq = even_of w
nearer_of w Ordering.gt = w + 1

-- the fraction to the nearest whole number, a half to the even one
abbrev pub half_even : ℕ → ℕ → ℕ
half_even a c = nearer_of (a / c) (compare (above_lower a c) (below_upper a c))

-- the number of octaves (document 02, [1]). The sign is looked at first: where it is set there are none, so for -0 and -0.5 too. Else the nearest whole
-- number, a half to the even one, held at the largest u32. A NaN gives 0
unfoldable pub octaves_of : Float → ℕ
octaves_of nan = 0
octaves_of (inf s) = cond s 0 4294967295
octaves_of (fin s m e) = cond s 0 (min (half_even (m * up e) (down e)) 4294967295)

-- ---- a half away from zero

-- the fraction to the nearest whole number, a half up
abbrev pub half_up : ℕ → ℕ → ℕ
half_up a c = (a * 2 + c) / (c * 2)

-- the nearest whole number, a half away from zero, as an f32 with the sign kept: Rust's `f32::round`
unfoldable pub rounded : Float → Float
rounded nan = nan
rounded (inf s) = inf s
rounded (fin s m e) = round binary32 s (half_up (m * up e) (down e)) 1
