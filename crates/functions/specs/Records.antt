-- A function record as values, from its bytes: document 01, "A function record". Numbers stand here as they are given, so one may be an infinity or
-- NaN, and an f64 is not narrowed yet: refusal 3 speaks of these. Past the end of the bytes there are zeros. Definitions only.
use Rattle.std.specs.Prelude.{ℕ, ◌+◌, cond, List, get_or, eqb, leb, Float, None, Option, Some}
use Rattle.sheet_fields.specs.Fields.{marked_number}
use Rattle.svgtree.specs.declared.LengthUnit.{LengthUnit}
use Rattle.svgtree.specs.declared.Color.{Color}
use Rattle.svgtree.specs.Parse.{single, double, unit_of, color_at}

-- where the fields stand: "view box width, dpi, font size, each f32, code u8 .., then for 0 to 7 an f64 ..; for 8 one length; for 9 colour flag and
-- colour (zero if none), fallback colour, dx, dy, deviation"
abbrev pub record_view_box_width : ℕ
record_view_box_width = 0

abbrev pub record_dpi : ℕ
record_dpi = 4

abbrev pub record_font_size : ℕ
record_font_size = 8

abbrev pub record_code : ℕ
record_code = 12

abbrev pub record_argument : ℕ
record_argument = 13

abbrev pub record_color_flag : ℕ
record_color_flag = 13

abbrev pub record_color : ℕ
record_color = 14

abbrev pub record_fallback : ℕ
record_fallback = 18

abbrev pub record_dx : ℕ
record_dx = 22

abbrev pub record_dy : ℕ
record_dy = 31

abbrev pub record_std_deviation : ℕ
record_std_deviation = 40

-- a unit byte and an f64
pub record GivenLength : Type 0 where
  pub unit : LengthUnit
  pub number : Float

-- "colour flag and colour (zero if none), fallback colour, dx, dy, deviation"
pub record GivenShadow : Type 0 where
  pub color : Option Color
  pub fallback : Color
  pub dx : GivenLength
  pub dy : GivenLength
  pub std_deviation : GivenLength

-- a shorthand function with its arguments: "for 0 to 7 an f64 (hue in degrees); for 8 one length"
pub data Function : Type 0 where
  grayscale sepia saturate hue_rotate invert opacity brightness contrast : Float → Function
  blur : GivenLength → Function
  drop_shadow : GivenShadow → Function

-- "view box width, dpi, font size, each f32", and the function
pub record FunctionRecord : Type 0 where
  pub view_box_width : Float
  pub dpi : Float
  pub font_size : Float
  pub function : Function

abbrev pub given_length_at : List ℕ → ℕ → GivenLength
given_length_at s at = record { unit = unit_of (get_or s at 0); number = double s (at + marked_number) }

unfoldable pub flagged_color : List ℕ → Option Color
flagged_color s = cond (eqb (get_or s record_color_flag 0) 1) (Some (color_at s record_color)) None

abbrev pub given_shadow : List ℕ → GivenShadow
given_shadow s =
    record {
      color = flagged_color s;
      fallback = color_at s record_fallback;
      dx = given_length_at s record_dx;
      dy = given_length_at s record_dy;
      std_deviation = given_length_at s record_std_deviation;
    }

-- "0 grayscale, sepia, saturate, hue-rotate, invert, opacity, brightness, contrast"
unfoldable pub of_amount : ℕ → Float → Function
of_amount code x =
    cond (eqb code 0) (grayscale x)
    (cond (eqb code 1) (sepia x)
    (cond (eqb code 2) (saturate x)
    (cond (eqb code 3) (hue_rotate x)
    (cond (eqb code 4) (invert x)
    (cond (eqb code 5) (opacity x)
    (cond (eqb code 6) (brightness x) (contrast x)))))))

-- "for 0 to 7 an f64 ..; for 8 one length; for 9 colour flag .."
unfoldable pub function_by : ℕ → List ℕ → Function
function_by code s =
    cond (leb code 7) (of_amount code (double s record_argument))
    (cond (eqb code 8) (blur (given_length_at s record_argument)) (drop_shadow (given_shadow s)))

abbrev pub code_of : List ℕ → ℕ
code_of s = get_or s record_code 0

abbrev pub function_record : List ℕ → FunctionRecord
function_record s =
    record {
      view_box_width = single s record_view_box_width;
      dpi = single s record_dpi;
      font_size = single s record_font_size;
      function = function_by (code_of s) s;
    }
