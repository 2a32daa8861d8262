-- What is said of a number, and of each value of a list. Definitions only.
use Rattle.std.specs.Prelude.{not, List, [], ◌∷◌, T, Float}
use Rattle.std.specs.Float.Ieee.{is_nan}
use Rattle.std.specs.Float.Ieee.Scale.{finite}

-- neither an infinity nor NaN
abbrev pub IsFinite : Float → Type 0
IsFinite x = T (finite x)

-- no NaN; an infinity is a number
abbrev pub IsNumber : Float → Type 0
IsNumber x = T (not (is_nan x))

-- what holds of each value of a list
abbrev pub Each : {A : Type 0} → (A → Type 0) → List A → Type 0
Each P [] = Unit {0}
Each P (x ∷ xs) = P x × Each P xs
