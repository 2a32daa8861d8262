-- What the code's values stand for, where they hold places in the lent bytes. Definitions only.
use Rattle.std.specs.Prelude.{ℕ, List}
use Rattle.number_list.specs.Lists.{numbers_is}
use Rattle.tree.specs.Kinds as spec
use Rattle.tree.specs.declared.ColorMatrixKind.{ColorMatrixKind}
use Rattle.tree.specs.declared.ColorMatrixKind.TheVariants as matrix
use Rattle.tree.specs.declared.TransferFunction.{TransferFunction}
use Rattle.tree.specs.declared.TransferFunction.TheVariants as transfer
use Rattle.tree.specs.declared.ComponentTransfer.{ComponentTransfer}
use Rattle.tree.specs.declared.ConvolveMatrixData.{ConvolveMatrixData}
use Rattle.tree.specs.declared.ConvolveMatrix.{ConvolveMatrix}
use Rattle.tree.specs.Kinds.{identity_matrix}

abbrev pub color_matrix_kind_is : List ℕ → ColorMatrixKind → spec.ColorMatrixKind
color_matrix_kind_is s (matrix.Matrix ns) = spec.Matrix (numbers_is s ns)
color_matrix_kind_is s matrix.Identity = spec.Matrix identity_matrix
color_matrix_kind_is s (matrix.Saturate x) = spec.Saturate x
color_matrix_kind_is s (matrix.HueRotate x) = spec.HueRotate x
color_matrix_kind_is s matrix.LuminanceToAlpha = spec.LuminanceToAlpha

abbrev pub transfer_function_is : List ℕ → TransferFunction → spec.TransferFunction
transfer_function_is s transfer.Identity = spec.Identity
transfer_function_is s (transfer.Table ns) = spec.Table (numbers_is s ns)
transfer_function_is s (transfer.Discrete ns) = spec.Discrete (numbers_is s ns)
transfer_function_is s (transfer.Linear slope intercept) = spec.Linear slope intercept
transfer_function_is s (transfer.Gamma amplitude exponent offset) = spec.Gamma amplitude exponent offset

abbrev pub component_transfer_is : List ℕ → ComponentTransfer → spec.ComponentTransferFields
component_transfer_is s v =
    record {
      func_r = transfer_function_is s v.func_r;
      func_g = transfer_function_is s v.func_g;
      func_b = transfer_function_is s v.func_b;
      func_a = transfer_function_is s v.func_a;
    }

abbrev pub convolve_matrix_data_is : List ℕ → ConvolveMatrixData → spec.ConvolveMatrixData
convolve_matrix_data_is s v =
    record {
      target_x = v.target_x;
      target_y = v.target_y;
      columns = v.columns;
      rows = v.rows;
      numbers = numbers_is s v.«data»;
    }

abbrev pub convolve_matrix_is : List ℕ → ConvolveMatrix → spec.ConvolveMatrixFields
convolve_matrix_is s v =
    record {
      matrix = convolve_matrix_data_is s v.matrix;
      divisor = v.divisor;
      bias = v.bias;
      edge_mode = v.edge_mode;
      preserve_alpha = v.preserve_alpha;
    }
