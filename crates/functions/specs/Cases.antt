-- A record of each function, with the kind that it gives, and three that are refused, each found by computing. The kinds are those of the crate.
use Rattle.std.specs.Prelude.{ℕ, ◌/◌, ◌%◌, ◌≡◌, refl, List, [], ◌∷◌, ◌++◌, map, Float}
use Rattle.std.specs.Float.{binary32}
use Rattle.std.specs.Float.Ieee.{of_bits, of_int, round, add, sub, mul, div, neg, lt, le}
use Rattle.answer.specs.Outcomes.{Outcome, refused, given, in_room}
use Rattle.answer.specs.declared.Refusal.TheVariants.{Malformed, BadNumber, ShortOutput}
use Rattle.bits.specs.Bytes.{le32, le64, bytes_from, bytes16, bytes32}
use Rattle.num.specs.Constants.{plus_zero}
use Rattle.num.specs.Narrowed.{or_zero, narrowed}
use Rattle.geom.specs.Geometry.{valid_length, view_box_length}
use Rattle.svgtree.specs.Parse.{unit_of}
use Rattle.field_tests.specs.Tests.{marked_ok, all, double_ok}
use Rattle.units.specs.Lengths.{convert_length}
use Rattle.fe_flood.specs.Flood.{alpha_opacity}
use Rattle.tree.specs.Input.{Input, SourceGraphic, input_bytes}
use Rattle.tree.specs.Scalars.{color_bytes, run_bytes, numbers_bytes}
use Rattle.tree.specs.Kinds.{Kind, ColorMatrix, ComponentTransfer, GaussianBlur, DropShadow, Matrix, Saturate, HueRotate, Table, Linear}
use Rattle.tree.specs.Fields.{color_matrix_kind_bytes, transfer_function_bytes, component_transfer_bytes, gaussian_blur_bytes, drop_shadow_bytes}
use Rattle.tree.specs.List.{kind_bytes}
use Rattle.functions.specs.Records.{flagged_color, of_amount, function_by}
use Rattle.function_amounts.specs.Amounts.{held, grayscale_matrix, sepia_matrix, positive_or_zero, invert_table, opacity_table, contrast_intercept}
use Rattle.functions.specs.Functions.{on_colors, on_alpha, user_length}
use Rattle.functions.specs.Refusals.{size_by, shadow_ok, arguments_ok, function_layout_ok, function_numbers_ok, function_refusal}
use Rattle.functions.specs.Call.{function_outcome}

-- f32 by its bits
abbrev float32 : ℕ → Float
float32 b = of_bits binary32 b

-- view box width 100, 96 dpi, font size 16, and the code
abbrev header : ℕ → List ℕ
header code = bytes32 0x42c8_0000 ++ bytes32 0x42c0_0000 ++ bytes32 0x4180_0000 ++ (code ∷ [])

-- f64 by its bits
abbrev double_bytes : ℕ → List ℕ
double_bytes b = bytes32 (b % 4294967296) ++ bytes32 (b / 4294967296)

abbrev amount : ℕ → ℕ → List ℕ
amount code b = header code ++ double_bytes b

-- a unit and an f64
abbrev length_bytes : ℕ → ℕ → List ℕ
length_bytes unit b = (unit ∷ []) ++ double_bytes b

-- a case: a record's bytes, the output's length, and what comes of it
pub record FunctionCase : Type 0 where
  pub bytes : List ℕ
  pub room : ℕ
  pub expected : Outcome (Kind Input)

abbrev gives : List ℕ → Kind Input → FunctionCase
gives s kind = record { bytes = s; room = 85; expected = given kind }

abbrev pub function_cases : List FunctionCase
function_cases =
    -- grayscale(0.25)
    gives (amount 0 0x3fd0_0000_0000_0000)
    (ColorMatrix SourceGraphic
    (Matrix
    (float32 0x3f4d_9b3d ∷ float32 0x3e37_1758 ∷ float32 0x3c93_dd98 ∷ float32 0 ∷ float32 0
    ∷ float32 0x3d59_b3d0 ∷ float32 0x3f6d_c5d6 ∷ float32 0x3c93_dd98 ∷ float32 0 ∷ float32 0
    ∷ float32 0x3d59_b3d0 ∷ float32 0x3e37_1758 ∷ float32 0x3f44_9eed ∷ float32 0 ∷ float32 0
    ∷ float32 0 ∷ float32 0 ∷ float32 0 ∷ float32 0x3f80_0000 ∷ float32 0
    ∷ [])))
    -- sepia(0.5)
    ∷ gives (amount 1 0x3fe0_0000_0000_0000)
    (ColorMatrix SourceGraphic
    (Matrix
    (float32 0x3f32_4dd3 ∷ float32 0x3ec4_dd2f ∷ float32 0x3dc1_8937 ∷ float32 0 ∷ float32 0
    ∷ float32 0x3e32_b021 ∷ float32 0x3f57_ced9 ∷ float32 0x3dac_0831 ∷ float32 0 ∷ float32 0
    ∷ float32 0x3e0b_4396 ∷ float32 0x3e88_b439 ∷ float32 0x3f10_c49c ∷ float32 0 ∷ float32 0
    ∷ float32 0 ∷ float32 0 ∷ float32 0 ∷ float32 0x3f80_0000 ∷ float32 0
    ∷ [])))
    -- saturate(2), which is not held at 1
    ∷ gives (amount 2 0x4000_0000_0000_0000) (ColorMatrix SourceGraphic (Saturate (float32 0x4000_0000)))
    -- hue-rotate(90deg)
    ∷ gives (amount 3 0x4056_8000_0000_0000) (ColorMatrix SourceGraphic (HueRotate (float32 0x42b4_0000)))
    -- invert(0.25)
    ∷ gives (amount 4 0x3fd0_0000_0000_0000) (ComponentTransfer SourceGraphic (on_colors (Table (float32 0x3e80_0000 ∷ float32 0x3f40_0000 ∷ []))))
    -- opacity(1.5), held at 1
    ∷ gives (amount 5 0x3ff8_0000_0000_0000) (ComponentTransfer SourceGraphic (on_alpha (Table (float32 0 ∷ float32 0x3f80_0000 ∷ []))))
    -- brightness(1.5)
    ∷ gives (amount 6 0x3ff8_0000_0000_0000) (ComponentTransfer SourceGraphic (on_colors (Linear (float32 0x3fc0_0000) (float32 0))))
    -- contrast(3): the intercept is -1
    ∷ gives (amount 7 0x4008_0000_0000_0000) (ComponentTransfer SourceGraphic (on_colors (Linear (float32 0x4040_0000) (float32 0xbf80_0000))))
    -- blur(1in)
    ∷ gives (header 8 ++ length_bytes 4 0x3ff0_0000_0000_0000)
    (GaussianBlur SourceGraphic (record { std_dev_x = float32 0x42c0_0000; std_dev_y = float32 0x42c0_0000 }))
    -- drop-shadow(10% 10% -1px) without a colour, the fallback being red with an alpha of 51: a negative deviation is 0
    ∷ gives
    (header 9
    ++ (0 ∷ 0 ∷ 0 ∷ 0 ∷ 0 ∷ [])
    ++ (255 ∷ 0 ∷ 0 ∷ 51 ∷ [])
    ++ length_bytes 9 0x4024_0000_0000_0000
    ++ length_bytes 9 0x4024_0000_0000_0000
    ++ length_bytes 3 0xbff0_0000_0000_0000)
    (DropShadow SourceGraphic
    (record {
      dx = float32 0x4120_0000;
      dy = float32 0x4120_0000;
      std_dev_x = plus_zero;
      std_dev_y = plus_zero;
      color = record { red = 255; green = 0; blue = 0 };
      opacity = float32 0x3e4c_cccd;
    }))
    -- no such code; an infinity; an output that is one byte short
    ∷ record { bytes = amount 10 0; room = 85; expected = refused Malformed }
    ∷ record { bytes = amount 6 0x7ff0_0000_0000_0000; room = 85; expected = refused BadNumber }
    ∷ record { bytes = header 8 ++ length_bytes 4 0x3ff0_0000_0000_0000; room = 9; expected = refused ShortOutput }
    ∷ []

pub function_cases_hold : map (λ (c : FunctionCase). function_outcome c.bytes c.room) function_cases ≡ map (λ (c : FunctionCase). c.expected) function_cases
unfolding function_outcome in_room function_refusal function_layout_ok size_by arguments_ok shadow_ok marked_ok bytes_from all function_numbers_ok view_box_length valid_length double_ok function_by of_amount flagged_color unit_of kind_bytes input_bytes color_matrix_kind_bytes transfer_function_bytes component_transfer_bytes gaussian_blur_bytes drop_shadow_bytes color_bytes numbers_bytes run_bytes held grayscale_matrix sepia_matrix positive_or_zero invert_table opacity_table contrast_intercept user_length convert_length alpha_opacity or_zero narrowed le32 le64 bytes16 bytes32 of_bits of_int round add sub mul div neg lt le
function_cases_hold = refl
