-- The ranges of feConvolveMatrix hold of every node. Assumes nothing.
use Rattle.std.specs.Prelude.{Float, None, Option, Some, ℕ}
use Prim.Native.Nat.{ℕ, ◌*◌, ◌<◌}
use mathlib.Core.Path.{◌≡◌, refl}
use mathlib.Core.Bool.{Bool, true, false, cond}
use mathlib.Core.List.{List}
use lib.Dec.{T, ltb, eqb, ltb→lt, eqb→eq}
use lib.ListN.{length}
use lib.IntN.{ℤ, pos, negsuc}
use lib.Ieee.{Float}
use Rattle.num.specs.Constants.{plus_zero}
use Rattle.num.specs.Numbers.{IsFinite, IsNumber, Each}
use Rattle.num.specs.Sign.{near_zero}
use Rattle.num.proofs.Finite.{zero_finite}
use Rattle.names.specs.Ids.{aid_kernel_matrix, aid_divisor, aid_bias, aid_target_x, aid_target_y}
use Rattle.svgtree.specs.Values.{Node}
use Rattle.svgtree.specs.Readers.{number_of, numbers_of}
use Rattle.tree.specs.Kinds.{ConvolveMatrixData}
use Rattle.fe_kernel.specs.declared.order.Order.{Order}
use Rattle.fe_kernel.specs.Target.{target_below, target_inside, given_or, target_of}
use Rattle.fe_kernel.specs.Order.{order_of}
use Rattle.fe_kernel.specs.Divisor.{default_divisor, divisor_of}
use Rattle.fe_kernel.specs.ConvolveMatrix.{matrix_with, kernel_matrix_of, convolve_with, convolve_of, convolve_matrix_of}
use Rattle.fe_kernel.specs.ProofRanges.{KernelOk, ConvolveMatrixOk}
use Rattle.fe_kernel.proofs.Sums.{divisor_num}
use Rattle.fe.proofs.Numbers.{ListHolds, number_or_finite, number_or_num, numbers_finite}

-- ---- the target is inside

abbrev TargetOk : ℕ → Option ℕ → Type 0
TargetOk order (Some t) = t < order
TargetOk order None = Unit {0}

below_ok : (t order : ℕ) → TargetOk order (target_below t order)
below_ok t order = go (ltb t order) (ltb→lt t order)
  where
    go : (b : Bool) → (T b → t < order) → TargetOk order (cond b (Some t) None)
    go true h = h tt
    go false h = tt

inside_ok : (t : ℤ) (order : ℕ) → TargetOk order (target_inside t order)
inside_ok (pos t) order = below_ok t order
inside_ok (negsuc t) order = tt

target_ok : (target : Option Float) (order : ℕ) → TargetOk order (target_of target order)
unfolding target_of
target_ok target order = inside_ok (given_or target order) order

-- ---- the kernel

kernel_with_ok : (o : Order) (x y : Option ℕ) (kernel : List Float) → TargetOk o.columns x → TargetOk o.rows y → Each IsFinite kernel → KernelOk (matrix_with o x y kernel)
kernel_with_ok o (Some x) (Some y) kernel p q f = go (eqb (length kernel) (o.columns * o.rows)) (eqb→eq (length kernel) (o.columns * o.rows))
  where
    value : ConvolveMatrixData
    value = record { target_x = x; target_y = y; columns = o.columns; rows = o.rows; numbers = kernel }

    go : (b : Bool) → (T b → length kernel ≡ o.columns * o.rows) → KernelOk (cond b (Some value) None)
    go true h = record { count = h tt; target_x = p; target_y = q; numbers = f }
    go false h = tt
kernel_with_ok o (Some x) None kernel p q f = tt
kernel_with_ok o None y kernel p q f = tt

kernel_ok_lem : (n : Node) (kernel : List Float) → Each IsFinite kernel → KernelOk (kernel_matrix_of n kernel)
kernel_ok_lem n kernel f =
    kernel_with_ok (order_of n) (target_of (number_of n aid_target_x) (order_of n).columns) (target_of (number_of n aid_target_y) (order_of n).rows) kernel
    (target_ok (number_of n aid_target_x) (order_of n).columns)
    (target_ok (number_of n aid_target_y) (order_of n).rows)
    f

-- ---- the element

convolve_with_ok : (n : Node) (divisor : Float) (m : Option ConvolveMatrixData) → near_zero divisor ≡ false → IsNumber divisor → KernelOk m → ConvolveMatrixOk (convolve_with n divisor m)
convolve_with_ok n divisor (Some m) e h k = record { matrix = k; divisor = e; divisor_number = h; bias = number_or_finite n aid_bias plus_zero zero_finite }
convolve_with_ok n divisor None e h k = tt

convolve_ok : (n : Node) (list : Option (List Float)) → ListHolds IsFinite list → ConvolveMatrixOk (convolve_of n list)
convolve_ok n None f = tt
convolve_ok n (Some kernel) f = go (near_zero (divisor_of n kernel)) refl
  where
    go : (b : Bool) → near_zero (divisor_of n kernel) ≡ b → ConvolveMatrixOk (cond b None (convolve_with n (divisor_of n kernel) (kernel_matrix_of n kernel)))
    go true e = tt
    go false e = convolve_with_ok n (divisor_of n kernel) (kernel_matrix_of n kernel) e (number_or_num n aid_divisor (default_divisor kernel) (divisor_num kernel f)) (kernel_ok_lem n kernel f)

pub convolve_matrix_ok : (n : Node) → ConvolveMatrixOk (convolve_matrix_of n)
convolve_matrix_ok n = convolve_ok n (numbers_of n aid_kernel_matrix) (numbers_finite n aid_kernel_matrix)
