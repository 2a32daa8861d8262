-- The numbers of every function's kind are in their ranges. Assumes nothing.
use Rattle.std.specs.Prelude.{None, Some}
use Prim.Native.Nat.{ℕ, ◌+◌, ◌≤◌, ◌<◌}
use native.Mathlib.Omega.{arith}
use mathlib.Core.Path.{refl}
use mathlib.Core.Bool.{Bool, true, false, cond}
use mathlib.Core.List.{List}
use lib.Dec.{T, leb, eqb, le→leb}
use lib.ListN.{get_or}
use lib.Ieee.{Float, of_bits, lt, is_nan}
use lib.Ieee.Scale.{finite}
use Rattle.num.specs.Narrowed.{narrowed, or_zero, as_f32}
use Rattle.num.specs.Sign.{positive}
use Rattle.num.specs.Numbers.{IsNumber}
use Rattle.num.proofs.Laws.{finite_num}
use Rattle.num.proofs.Finite.{narrowed_fits, or_zero_finite, or_zero_fits}
use Rattle.names.specs.Ids.{aid_dx}
use Rattle.svgtree.specs.Parse.{color_at}
use Rattle.tree.specs.Kinds.{Matrix}
use Rattle.svgtree.specs.declared.Units.TheVariants.{UserSpaceOnUse}
use Rattle.units.proofs.Lengths.{length_single}
use Rattle.fe.proofs.Numbers.{made_positive}
use Rattle.fe_flood.proofs.Opacity.{alpha_ok}
use Rattle.functions.specs.Records.{record_color_flag, record_color, record_fallback, GivenLength, Function, FunctionRecord, grayscale, sepia, saturate, hue_rotate, invert, opacity, brightness, contrast, blur, drop_shadow, flagged_color, given_shadow, of_amount, function_by, code_of, function_record}
use Rattle.function_amounts.specs.Amounts.{one64, held, positive_or_zero, grayscale_matrix, sepia_matrix, invert_table, opacity_table}
use Rattle.functions.specs.Functions.{as_length, function_state, user_length, color_or, kind_by, function_kind}
use Rattle.functions.specs.Ranges.{FunctionRange, of_color_matrix, of_component_transfer, of_gaussian_blur, of_drop_shadow}
use Rattle.num.proofs.Each.{◌and◌}
use Rattle.function_amounts.proofs.Numbers.{rest_num, grayscale_num, sepia_num, intercept_num}

number_finite : (x : Float) → T (finite (as_f32 x))
number_finite x = or_zero_finite (narrowed x)

number_num : (x : Float) → IsNumber (as_f32 x)
number_num x = finite_num (as_f32 x) (number_finite x)

held_finite : (x : Float) → T (finite (held x))
unfolding held
held_finite x = or_zero_finite (narrowed (cond (lt one64 x) one64 x))

held_num : (x : Float) → IsNumber (held x)
held_num x = finite_num (held x) (held_finite x)

positive_or_zero_lem : (x : Float) → T (positive (positive_or_zero x))
unfolding positive_or_zero
positive_or_zero_lem x = made_positive x

length_num : (r : FunctionRecord) (l : GivenLength) → IsNumber (user_length r l)
unfolding user_length
length_num r l =
    (length_single (as_length l) aid_dx UserSpaceOnUse (function_state r) (or_zero r.font_size)
    (record { finite_number = or_zero_finite (narrowed l.number); fits_number = or_zero_fits (narrowed l.number) (narrowed_fits l.number) })
    (record { width = or_zero_finite r.view_box_width; height = or_zero_finite r.view_box_width; dpi = or_zero_finite r.dpi })
    (or_zero_finite r.font_size)).no_nan

-- the alpha of a shadow's colour is a byte
abbrev Alpha : Function → Type 0
Alpha (grayscale x) = Unit {0}
Alpha (sepia x) = Unit {0}
Alpha (saturate x) = Unit {0}
Alpha (hue_rotate x) = Unit {0}
Alpha (invert x) = Unit {0}
Alpha (opacity x) = Unit {0}
Alpha (brightness x) = Unit {0}
Alpha (contrast x) = Unit {0}
Alpha (blur l) = Unit {0}
Alpha (drop_shadow v) = T (leb (color_or v.color v.fallback).alpha 255)

by_function : (r : FunctionRecord) (f : Function) → Alpha f → FunctionRange (kind_by r f)
unfolding grayscale_matrix sepia_matrix invert_table opacity_table of_bits is_nan
by_function r (grayscale x) h = of_color_matrix {v = Matrix (grayscale_matrix (held x))} (refl, grayscale_num (held x) (held_finite x))
by_function r (sepia x) h = of_color_matrix {v = Matrix (sepia_matrix (held x))} (refl, sepia_num (held x) (held_finite x))
by_function r (saturate x) h = of_color_matrix (positive_or_zero_lem (as_f32 x))
by_function r (hue_rotate x) h = of_color_matrix (number_num x)
by_function r (invert x) h =
    let a = held_num x in
    let b = rest_num (held x) (held_finite x) in
    of_component_transfer (a and b and a and b and a and b and tt)
by_function r (opacity x) h = of_component_transfer (tt and held_num x and tt)
by_function r (brightness x) h =
    let a = number_num x in
    of_component_transfer (a and tt and a and tt and a and tt and tt)
by_function r (contrast x) h =
    let a = number_num x in
    let b = intercept_num (as_f32 x) (number_finite x) in
    of_component_transfer (a and b and a and b and a and b and tt)
by_function r (blur l) h = of_gaussian_blur (record { deviation_x = positive_or_zero_lem (user_length r l); deviation_y = positive_or_zero_lem (user_length r l) })
by_function r (drop_shadow v) h =
    of_drop_shadow
    (record {
      dx = length_num r v.dx;
      dy = length_num r v.dy;
      deviation_x = positive_or_zero_lem (user_length r v.std_deviation);
      deviation_y = positive_or_zero_lem (user_length r v.std_deviation);
      opacity = alpha_ok (color_or v.color v.fallback).alpha h;
    })

-- ---- of a record's bytes

either : (b : Bool) (f g : Function) → Alpha f → Alpha g → Alpha (cond b f g)
either true f g p q = p
either false f g p q = q

alpha_amount : (code : ℕ) (x : Float) → Alpha (of_amount code x)
unfolding of_amount
alpha_amount code x =
    either (eqb code 0) _ _ tt
    (either (eqb code 1) _ _ tt
    (either (eqb code 2) _ _ tt
    (either (eqb code 3) _ _ tt
    (either (eqb code 4) _ _ tt
    (either (eqb code 5) _ _ tt
    (either (eqb code 6) _ _ tt tt))))))

module _ (s : List ℕ) (bytes : (i : ℕ) → get_or s i 0 < 256) where
  byte_ok : (i : ℕ) → T (leb (get_or s i 0) 255)
  byte_ok i = let h : get_or s i 0 < 256 = bytes i in let k : get_or s i 0 ≤ 255 = omega arith in le→leb (get_or s i 0) 255 k

  alpha_shadow : (b : Bool) → T (leb (color_or (cond b (Some (color_at s record_color)) None) (color_at s record_fallback)).alpha 255)
  alpha_shadow true = byte_ok (record_color + 3)
  alpha_shadow false = byte_ok (record_fallback + 3)

  alpha : Alpha (function_by (code_of s) s)
  unfolding function_by flagged_color
  alpha =
      either (leb (code_of s) 7) _ _ (alpha_amount (code_of s) _)
      (either (eqb (code_of s) 8) _ (drop_shadow (given_shadow s)) tt (alpha_shadow (eqb (get_or s record_color_flag 0) 1)))

  pub in_range : FunctionRange (function_kind (function_record s))
  in_range = by_function (function_record s) (function_by (code_of s) s) alpha
