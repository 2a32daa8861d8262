-- How many bytes each function's kind is. Assumes nothing.
use Prim.Native.Nat.{ℕ}
use mathlib.Core.Path.{◌≡◌, refl}
use mathlib.Core.List.{List}
use lib.ListN.{length}
use Rattle.bits.specs.Bytes.{bytes16, bytes32}
use Rattle.tree.specs.Input.{input_bytes}
use Rattle.tree.specs.Scalars.{color_bytes, run_bytes, numbers_bytes}
use Rattle.tree.specs.Fields.{color_matrix_kind_bytes, transfer_function_bytes, component_transfer_bytes, gaussian_blur_bytes, drop_shadow_bytes}
use Rattle.tree.specs.List.{kind_bytes}
use Rattle.functions.specs.Records.{Function, FunctionRecord, grayscale, sepia, saturate, hue_rotate, invert, opacity, brightness, contrast, blur, drop_shadow, function_by, code_of, function_record}
use Rattle.function_amounts.specs.Amounts.{grayscale_matrix, sepia_matrix, invert_table, opacity_table}
use Rattle.functions.specs.Functions.{kind_by, function_kind}

abbrev pub kind_size : Function → ℕ
kind_size (grayscale x) = 85
kind_size (sepia x) = 85
kind_size (saturate x) = 7
kind_size (hue_rotate x) = 7
kind_size (invert x) = 36
kind_size (opacity x) = 16
kind_size (brightness x) = 30
kind_size (contrast x) = 30
kind_size (blur l) = 10
kind_size (drop_shadow v) = 25

pub length_kind : (r : FunctionRecord) (f : Function) → length (kind_bytes (kind_by r f)) ≡ kind_size f
unfolding kind_bytes input_bytes color_matrix_kind_bytes transfer_function_bytes component_transfer_bytes gaussian_blur_bytes drop_shadow_bytes color_bytes numbers_bytes run_bytes bytes16 bytes32 grayscale_matrix sepia_matrix invert_table opacity_table
length_kind r (grayscale x) = refl
length_kind r (sepia x) = refl
length_kind r (saturate x) = refl
length_kind r (hue_rotate x) = refl
length_kind r (invert x) = refl
length_kind r (opacity x) = refl
length_kind r (brightness x) = refl
length_kind r (contrast x) = refl
length_kind r (blur l) = refl
length_kind r (drop_shadow v) = refl

pub size_of_record : (s : List ℕ) → length (kind_bytes (function_kind (function_record s))) ≡ kind_size (function_by (code_of s) s)
size_of_record s = length_kind (function_record s) (function_by (code_of s) s)
