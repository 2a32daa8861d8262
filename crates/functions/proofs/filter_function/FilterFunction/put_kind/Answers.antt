-- By cases on the code: the head and the fields are the function's kind, as the function's conversion has it. Assumes nothing.
use native.Mathlib.Omega.{arith}
use Rattle.std.proofs.lemmas.Grind.{common_steps}
use Rattle.functions.specs.Records.{of_amount, function_by}
use Rattle.functions.proofs.Heads.{color_matrix, component_transfer, gaussian_blur, drop_shadow}
use Rattle.functions.proofs.Lengths.{size_of_record}
use Rattle.functions.proofs.filter_function.FilterFunction.put_kind.Goals as goal

pub returns-in-Saturate : goal.returns-in-Saturate
unfolding of_amount function_by
returns-in-Saturate c =
    let p = rw color_matrix at c.put_fields.ensures in
    grind (arith, common_steps, size_of_record)

pub returns-in-HueRotate : goal.returns-in-HueRotate
unfolding of_amount function_by
returns-in-HueRotate c =
    let p = rw color_matrix at c.put_fields-in-HueRotate.ensures in
    grind (arith, common_steps, size_of_record)

pub returns-in-Brightness : goal.returns-in-Brightness
unfolding of_amount function_by
returns-in-Brightness c =
    let e = c.on_colors-fields.ensures in
    let p = rw (e.red, e.green, e.blue, e.alpha, component_transfer, c.convert_brightness_function.ensures) at c.put_fields-in-Brightness.ensures in
    grind (arith, common_steps, size_of_record)

pub returns-in-Contrast : goal.returns-in-Contrast
unfolding of_amount function_by
returns-in-Contrast c =
    let e = c.on_colors-fields-in-Contrast.ensures in
    let p = rw (e.red, e.green, e.blue, e.alpha, component_transfer, c.convert_contrast_function.ensures) at c.put_fields-in-Contrast.ensures in
    grind (arith, common_steps, size_of_record)

pub returns-in-Blur : goal.returns-in-Blur
unfolding of_amount function_by
returns-in-Blur c =
    let p = rw gaussian_blur at c.put_fields-in-Blur.ensures in
    grind (arith, common_steps, size_of_record)

pub returns-in-DropShadow : goal.returns-in-DropShadow
unfolding of_amount function_by
returns-in-DropShadow c =
    let p = rw drop_shadow at c.put_fields-in-DropShadow.ensures in
    grind (arith, common_steps, size_of_record)
