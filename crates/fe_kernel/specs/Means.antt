-- What the code's answers stand for over the sheet's bytes. Definitions only.
use Rattle.tree.specs.declared.ConvolveMatrix.{ConvolveMatrix}
use Rattle.tree.specs.declared.ConvolveMatrixData as code
use Rattle.std.specs.Prelude.{ℕ, List, None, Option, Some}
use Rattle.tree.specs.Kinds.{ConvolveMatrixData, ConvolveMatrixFields}
use Rattle.tree.specs.Means.{convolve_matrix_data_is, convolve_matrix_is}

abbrev pub maybe_matrix_is : List ℕ → Option code.ConvolveMatrixData → Option ConvolveMatrixData
maybe_matrix_is s (Some m) = Some (convolve_matrix_data_is s m)
maybe_matrix_is s None = None

abbrev pub maybe_convolve_matrix_is : List ℕ → Option ConvolveMatrix → Option ConvolveMatrixFields
maybe_convolve_matrix_is s (Some v) = Some (convolve_matrix_is s v)
maybe_convolve_matrix_is s None = None
