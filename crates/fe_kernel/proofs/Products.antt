-- The product of two numbers of 32 bits fits in 64. Assumes nothing.
use Prim.Native.Nat.{ℕ, ◌*◌, ◌<◌}
use native.Mathlib.Nat.{le_of_lt, lt_of_le_of_lt, mul-le-mul_left, mul-lt-mul_of_pos_right}
use native.Mathlib.Omega.{arith}

pub product_fits : {a b : ℕ} → a < 4294967296 → b < 4294967296 → a * b < 18446744073709551616
product_fits {a} {b} ha hb =
    let z : 0 < 4294967296 = omega arith in
    lt_of_le_of_lt (mul-le-mul_left a (le_of_lt hb)) (mul-lt-mul_of_pos_right {k = 4294967296} ha z)
