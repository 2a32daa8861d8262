-- Zero bytes, as a test of each number of a range. Assumes nothing.
use Prim.Native.Nat.{ℕ, zero, suc, ◌+◌}
use mathlib.Core.Path.{◌≡◌, refl}
use mathlib.Core.List.{List}
use mathlib.Core.Bool.{Bool}
use lib.ListN.{get_or}
use Rattle.std.specs.List.{list_all, range_with_len}
use Rattle.bits.specs.Bytes.{bytes_from}
use Rattle.field_tests.specs.Tests.{all, is_zero, zeros}

abbrev pub zero_at : List ℕ → ℕ → Bool
zero_at s at = is_zero (get_or s at 0)

pub zeros_ranged : (s : List ℕ) (at n : ℕ) → list_all (zero_at s) (range_with_len at n) ≡ zeros (bytes_from s at n)
unfolding all bytes_from
zeros_ranged s at zero = refl
zeros_ranged s at (suc n) = rw (zeros_ranged s (at + 1) n)
