-- feConvolveMatrix of the W3C document Filter Effects Module Level 1. The crate does not read the document's `kernelUnitLength`; in a sheet its id is not
-- in the layout. Definitions only.
use Rattle.std.specs.Prelude.{◌*◌, Bool, cond, List, [], ◌∷◌, eqb, length, Float, None, Option, Some, ℕ}
use Rattle.bits.specs.Words.{word}
use Rattle.num.specs.Constants.{plus_zero}
use Rattle.num.specs.Sign.{near_zero}
use Rattle.names.specs.Ids.{aid_kernel_matrix, aid_target_x, aid_target_y, aid_bias, aid_edge_mode, aid_preserve_alpha}
use Rattle.svgtree.specs.Values.{Node}
use Rattle.svgtree.specs.Readers.{text_of, number_of, numbers_of}
use Rattle.fe.specs.Attributes.{number_or, is_word}
use Rattle.fe.specs.Keywords.{◌means◌, keyword}
use Rattle.tree.specs.Kinds.{ConvolveMatrixData, ConvolveMatrixFields}
use Rattle.tree.specs.declared.EdgeMode.{EdgeMode}
use Rattle.tree.specs.declared.EdgeMode.TheVariants as edge
use Rattle.fe_kernel.specs.declared.order.Order.{Order}
use Rattle.fe_kernel.specs.Order.{order_of}
use Rattle.fe_kernel.specs.Target.{target_of}
use Rattle.fe_kernel.specs.Divisor.{divisor_of}

-- the kernel with its target, "[it] holds columns × rows numbers with its target inside", or none. "Order product is exact here": the
-- crate's wraps in 32 bits.
abbrev pub matrix_with : Order → Option ℕ → Option ℕ → List Float → Option ConvolveMatrixData
matrix_with o (Some x) (Some y) kernel =
    cond (eqb (length kernel) (o.columns * o.rows))
    (Some (record { target_x = x; target_y = y; columns = o.columns; rows = o.rows; numbers = kernel }))
    None
matrix_with o (Some x) None kernel = None
matrix_with o None y kernel = None

abbrev pub kernel_matrix_of : Node → List Float → Option ConvolveMatrixData
kernel_matrix_of n kernel =
    matrix_with (order_of n) (target_of (number_of n aid_target_x) (order_of n).columns) (target_of (number_of n aid_target_y) (order_of n).rows) kernel

-- edgeMode: `duplicate` where it is absent or another text
abbrev pub edge_mode_of : Node → EdgeMode
edge_mode_of n = keyword ("none" means edge.None ∷ "wrap" means edge.Wrap ∷ []) edge.Duplicate (text_of n aid_edge_mode)

-- preserveAlpha: false where it is absent or another text
abbrev pub preserve_alpha_of : Node → Bool
preserve_alpha_of n = is_word (text_of n aid_preserve_alpha) (word "true")

-- the element with its kernel; bias is 0 where it is absent
abbrev pub convolve_with : Node → Float → Option ConvolveMatrixData → Option ConvolveMatrixFields
convolve_with n divisor (Some m) =
    Some
    (record {
      matrix = m;
      divisor = divisor;
      bias = number_or n aid_bias plus_zero;
      edge_mode = edge_mode_of n;
      preserve_alpha = preserve_alpha_of n;
    })
convolve_with n divisor None = None

-- "a divisor isn't near zero". The document: a given divisor of zero stands for the kernel's own; the crate: none, for which the flood stands.
abbrev pub convolve_of : Node → Option (List Float) → Option ConvolveMatrixFields
convolve_of n (Some kernel) = cond (near_zero (divisor_of n kernel)) None (convolve_with n (divisor_of n kernel) (kernel_matrix_of n kernel))
convolve_of n None = None

-- feConvolveMatrix; none, for which the transparent black flood stands, without a kernel or where one of the ranges above is not kept. The
-- document: with a kernel of another count the element passes its input through.
abbrev pub convolve_matrix_of : Node → Option ConvolveMatrixFields
convolve_matrix_of n = convolve_of n (numbers_of n aid_kernel_matrix)
