-- The ten shorthand functions as kinds: the equivalents of the filter functions that Filter Effects Module Level 1 gives, with the numbers
-- of `function_amounts`. Definitions only.
use Rattle.std.specs.Prelude.{Float, None, Option, Some}
use Rattle.num.specs.Narrowed.{or_zero, as_f32}
use Rattle.num.specs.Constants.{plus_zero as zero}
use Rattle.function_amounts.specs.Amounts.{held, positive_or_zero, grayscale_matrix, sepia_matrix, invert_table, opacity_table, contrast_intercept}
use Rattle.names.specs.Ids.{aid_dx}
use Rattle.svgtree.specs.declared.Color.{Color}
use Rattle.svgtree.specs.declared.Length.{Length}
use Rattle.units.specs.declared.State.{State}
use Rattle.svgtree.specs.declared.Units.TheVariants.{UserSpaceOnUse}
use Rattle.units.specs.Lengths.{convert_length}
use Rattle.fe_flood.specs.Flood.{split_alpha}
use Rattle.tree.specs.Input.{Input, SourceGraphic}
use Rattle.tree.specs.Kinds.{Kind, ColorMatrix, ComponentTransfer, GaussianBlur, DropShadow, Matrix, Saturate, HueRotate, TransferFunction, Identity, Table, Linear, ComponentTransferFields}
use Rattle.tree.specs.declared.GaussianBlur.{GaussianBlur as GaussianBlurFields}
use Rattle.tree.specs.declared.DropShadow.{DropShadow as DropShadowFields}
use Rattle.functions.specs.Records.{GivenLength, GivenShadow, Function, FunctionRecord, grayscale, sepia, saturate, hue_rotate, invert, opacity, brightness, contrast, blur, drop_shadow}

-- ---- transfer functions

-- the same function for red, green and blue
abbrev pub on_colors : TransferFunction → ComponentTransferFields
on_colors f = record { func_r = f; func_g = f; func_b = f; func_a = Identity }

abbrev pub on_alpha : TransferFunction → ComponentTransferFields
on_alpha f = record { func_r = Identity; func_g = Identity; func_b = Identity; func_a = f }

-- ---- lengths

-- the number is narrowed first
abbrev pub as_length : GivenLength → Length
as_length l = record { number = as_f32 l.number; unit = l.unit }

-- a record has no view box height, and none of its lengths asks for one
abbrev pub function_state : FunctionRecord → State
function_state r = record { view_box = record { width = or_zero r.view_box_width; height = or_zero r.view_box_width }; dpi = or_zero r.dpi }

-- "For a function's blur, dx and dy alike it is the width": each length is converted as `dx`. The crate converts dy as `dy`, whose percentage is of the view
-- box height. The document: blur() and drop-shadow() take no percentage.
unfoldable pub user_length : FunctionRecord → GivenLength → Float
user_length r l = convert_length (as_length l) aid_dx UserSpaceOnUse (function_state r) (or_zero r.font_size)

abbrev pub deviation_of : FunctionRecord → GivenLength → Float
deviation_of r l = positive_or_zero (user_length r l)

abbrev pub function_blur : FunctionRecord → GivenLength → GaussianBlurFields
function_blur r l = record { std_dev_x = deviation_of r l; std_dev_y = deviation_of r l }

-- the function's own colour, or the fallback
abbrev pub color_or : Option Color → Color → Color
color_or (Some c) fallback = c
color_or None fallback = fallback

abbrev pub function_shadow : FunctionRecord → GivenShadow → DropShadowFields
function_shadow r v =
    let c = split_alpha (color_or v.color v.fallback) in
    record {
      dx = user_length r v.dx;
      dy = user_length r v.dy;
      std_dev_x = deviation_of r v.std_deviation;
      std_dev_y = deviation_of r v.std_deviation;
      color = c.color;
      opacity = c.opacity;
    }

-- ---- the kind that each function gives, over SourceGraphic. The document: an amount of brightness or contrast below 0 is an error. The crate: it is taken
-- as it is.

abbrev pub kind_by : FunctionRecord → Function → Kind Input
kind_by r (grayscale x) = ColorMatrix SourceGraphic (Matrix (grayscale_matrix (held x)))
kind_by r (sepia x) = ColorMatrix SourceGraphic (Matrix (sepia_matrix (held x)))
kind_by r (saturate x) = ColorMatrix SourceGraphic (Saturate (positive_or_zero (as_f32 x)))
kind_by r (hue_rotate x) = ColorMatrix SourceGraphic (HueRotate (as_f32 x))
kind_by r (invert x) = ComponentTransfer SourceGraphic (on_colors (Table (invert_table (held x))))
kind_by r (opacity x) = ComponentTransfer SourceGraphic (on_alpha (Table (opacity_table (held x))))
kind_by r (brightness x) = ComponentTransfer SourceGraphic (on_colors (Linear (as_f32 x) zero))
kind_by r (contrast x) = ComponentTransfer SourceGraphic (on_colors (Linear (as_f32 x) (contrast_intercept (as_f32 x))))
kind_by r (blur l) = GaussianBlur SourceGraphic (function_blur r l)
kind_by r (drop_shadow v) = DropShadow SourceGraphic (function_shadow r v)

abbrev pub function_kind : FunctionRecord → Kind Input
function_kind r = kind_by r r.function
