-- Refusals 2 and 3 of a function record: document 01, "A function record" and "When no list is given". Definitions only.
use Rattle.answer.specs.declared.Refusal.{Refusal}
use Rattle.std.specs.Prelude.{ℕ, ◌+◌, Bool, true, cond, not, ◌&&◌, List, [], ◌∷◌, get_or, length, eqb, leb, Float, Err, Ok, Result}
use Rattle.bits.specs.Bytes.{bytes_from}
use Rattle.num.specs.Sign.{positive}
use Rattle.geom.specs.Geometry.{valid_length, view_box_length}
use Rattle.sheet_fields.specs.Fields.{size_length, size_color, unit_percent}
use Rattle.field_tests.specs.Tests.{marked_ok, all, double_ok}
use Rattle.functions.specs.Records.{record_argument, record_color_flag, record_color, record_dx, record_dy, record_std_deviation, Function, FunctionRecord, grayscale, sepia, saturate, hue_rotate, invert, opacity, brightness, contrast, blur, drop_shadow, code_of, function_record}
use Rattle.answer.specs.declared.Refusal.TheVariants.{Malformed, BadNumber}

-- ---- 2, "bytes not in the layout"

-- up to the end of the arguments: an f64, a length, or what ends with a length
unfoldable pub size_by : ℕ → ℕ
size_by code = cond (leb code 7) (record_argument + 8) (cond (eqb code 8) (record_argument + size_length) (record_std_deviation + size_length))

-- "Units: 0 none .. 9 percent"
abbrev pub unit_ok : List ℕ → ℕ → Bool
unit_ok s at = leb (get_or s at 0) unit_percent

-- "colour flag and colour (zero if none), fallback colour, dx, dy, deviation"
unfoldable pub shadow_ok : List ℕ → Bool
shadow_ok s = marked_ok (get_or s record_color_flag 0) (bytes_from s record_color size_color) && unit_ok s record_dx && unit_ok s record_dy && unit_ok s record_std_deviation

unfoldable pub arguments_ok : ℕ → List ℕ → Bool
arguments_ok code s = cond (leb code 7) true (cond (eqb code 8) (unit_ok s record_argument) (shadow_ok s))

unfoldable pub function_layout_ok : List ℕ → Bool
function_layout_ok s = leb (code_of s) 9 && eqb (length s) (size_by (code_of s)) && arguments_ok (code_of s) s

-- ---- 3, "number not finite, as given or narrowed to f32; .. view box size or dpi not above 0; view box size equal to the largest f32; font size below 0"

-- each f64
abbrev pub function_numbers : Function → List Float
function_numbers (grayscale x) = x ∷ []
function_numbers (sepia x) = x ∷ []
function_numbers (saturate x) = x ∷ []
function_numbers (hue_rotate x) = x ∷ []
function_numbers (invert x) = x ∷ []
function_numbers (opacity x) = x ∷ []
function_numbers (brightness x) = x ∷ []
function_numbers (contrast x) = x ∷ []
function_numbers (blur l) = l.number ∷ []
function_numbers (drop_shadow v) = v.dx.number ∷ v.dy.number ∷ v.std_deviation.number ∷ []

unfoldable pub function_numbers_ok : FunctionRecord → Bool
function_numbers_ok r =
    view_box_length r.view_box_width
    && valid_length r.dpi
    && positive r.font_size
    && all double_ok (function_numbers r.function)

-- ---- the first of the two

unfoldable pub function_refusal : List ℕ → Result (Unit {0}) Refusal
function_refusal s =
    cond (not (function_layout_ok s)) (Err Malformed)
    (cond (not (function_numbers_ok (function_record s))) (Err BadNumber) (Ok tt))
