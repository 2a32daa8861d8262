-- What the proofs carry of an answer that may have no value. Definitions only.
use Rattle.std.specs.Prelude.{None, Option, Some}
use Rattle.tree.specs.Kinds.{ConvolveMatrixData, ConvolveMatrixFields}
use Rattle.fe_kernel.specs.Ranges.{KernelRange, ConvolveMatrixRange}

-- the range of what is answered; where there is no value there is nothing to say

abbrev pub KernelOk : Option ConvolveMatrixData → Type 0
KernelOk (Some m) = KernelRange m
KernelOk None = Unit {0}

abbrev pub ConvolveMatrixOk : Option ConvolveMatrixFields → Type 0
ConvolveMatrixOk (Some v) = ConvolveMatrixRange v
ConvolveMatrixOk None = Unit {0}
