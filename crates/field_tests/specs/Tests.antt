-- Tests of the bytes and of the numbers of a field. Definitions only.
use Rattle.std.specs.Prelude.{ℕ, List, [], ◌∷◌, Bool, true, ◌&&◌, ◌||◌, eqb, Float}
use Rattle.std.specs.Float.Ieee.Scale.{finite}
use Rattle.num.specs.Narrowed.{narrowed}

-- every element passes
unfoldable pub all : {A : Type 0} → (A → Bool) → List A → Bool
all p [] = true
all p (x ∷ xs) = p x && all p xs

abbrev pub is_zero : ℕ → Bool
is_zero b = eqb b 0

-- "zero bits"
abbrev pub zeros : List ℕ → Bool
zeros bytes = all is_zero bytes

-- what is marked present by 1 or absent by 0: zero bits if absent
unfoldable pub marked_ok : ℕ → List ℕ → Bool
marked_ok mark bits = eqb mark 1 || (eqb mark 0 && zeros bits)

-- an f64: finite "as given or narrowed to f32". The crate takes some that are not: an order beyond f32 is held, and
-- a deviation beyond f32 becomes 0
unfoldable pub double_ok : Float → Bool
double_ok x = finite x && finite (narrowed x)
