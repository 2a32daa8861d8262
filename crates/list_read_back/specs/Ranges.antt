-- Document 01's "Ranges", of a record that was read: each named number by its place among the f32 of its kind's fields. Definitions only.
use Rattle.std.specs.Prelude.{ℕ, ◌+◌, ◌*◌, Bool, true, cond, not, ◌&&◌, List, [], ◌∷◌, map, T, eqb, ltb, length, get_or, drop, Float}
use Rattle.std.specs.Float.{binary32}
use Rattle.std.specs.Float.Ieee.{of_bits}
use Rattle.num.specs.Constants.{plus_zero}
use Rattle.num.specs.Sign.{positive, opacity_in, near_zero}
use Rattle.fe_light.specs.SpecularLighting.{exponent_in_range}
use Rattle.list_read.specs.Read.{read32, read_many}
use Rattle.list_read.specs.Layout.{layout_of}
use Rattle.list_read.specs.Records.{ListRecord}
use Rattle.list_read.specs.Patterns.{walk_kind, patterns_in}

-- the number at a place
abbrev pub number_at : List Float → ℕ → Float
number_at ns k = get_or ns k plus_zero

-- "a spot light's exponent [is] positive": a distant light has two numbers and a point light three; a spot light has seven, the exponent last, and
-- the cone's angle after them where it is given
abbrev pub exponent_ok : List Float → Bool
exponent_ok [] = true
exponent_ok (exponent ∷ angle) = positive exponent

abbrev pub light_ok : List Float → Bool
light_ok ns = exponent_ok (drop 6 ns)

-- "a kernel holds columns × rows numbers with its target inside; a divisor isn't near zero": `words` are target x, target y, columns and rows, and the
-- numbers are the kernel's, the divisor and the bias
abbrev pub kernel_ok : (words : List ℕ) → List Float → Bool
kernel_ok words ns =
    eqb (length ns) (get_or words 2 0 * get_or words 3 0 + 2)
    && ltb (get_or words 0 0) (get_or words 2 0)
    && ltb (get_or words 1 0) (get_or words 3 0)
    && not (near_zero (number_at ns (get_or words 2 0 * get_or words 3 0)))

-- by the kind's place, the numbers of its fields, and the first four words of them. "radius, deviation and a spot light's exponent are positive as
-- above; specular lighting's exponent is 1 to 128; opacity 0 to 1"
unfoldable pub named_ok : ℕ → List Float → (words : List ℕ) → Bool
named_ok kind ns words =
    cond (eqb kind 4) (kernel_ok words ns)  -- ConvolveMatrix
    (cond (eqb kind 5) (light_ok (drop 2 ns))  -- DiffuseLighting: scale, constant, light
    (cond (eqb kind 7) (positive (number_at ns 2) && positive (number_at ns 3) && opacity_in (number_at ns 4))  -- DropShadow: offsets, deviations, opacity
    (cond (eqb kind 8) (opacity_in (number_at ns 0))  -- Flood: opacity
    (cond (eqb kind 9) (positive (number_at ns 0) && positive (number_at ns 1))  -- GaussianBlur: deviations
    (cond (eqb kind 12) (positive (number_at ns 0) && positive (number_at ns 1))  -- Morphology: radii
    (cond (eqb kind 14) (exponent_in_range (number_at ns 2) && light_ok (drop 3 ns))  -- SpecularLighting: scale, constant, exponent, light
    true))))))

-- the f32 of the fields, as numbers
abbrev pub field_numbers : {R : Type 0} → ListRecord R → List Float
field_numbers r = map (of_bits binary32) (patterns_in (walk_kind (layout_of r.kind) r.fields))

abbrev pub RecordRange : {R : Type 0} → ListRecord R → Type 0
RecordRange r = T (named_ok r.kind (field_numbers r) (patterns_in (read_many read32 4 r.fields)))

-- every named number of every record is in its range
unfoldable pub RecordRanges : {R : Type 0} → List (ListRecord R) → Type 0
RecordRanges [] = Unit {0}
RecordRanges (r ∷ rs) = RecordRange r × RecordRanges rs
