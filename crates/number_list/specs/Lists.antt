-- A list of f32 that stands in bytes: in four bytes each, or typed. Definitions only.
use Rattle.std.specs.Prelude.{ℕ, zero, suc, ◌+◌, ◌-◌, ◌*◌, List, [], ◌∷◌, Float}
use Rattle.bits.specs.Bytes.{le32, bytes_from}
use Rattle.num.specs.Means.{single_of}
use Rattle.decimal.specs.Windows.{seen}
use Rattle.number_list.specs.declared.Numbers.{Numbers}
use Rattle.number_list.specs.declared.Numbers.TheVariants as numbers
use Rattle.number_list.specs.declared.iter.Iter.{Iter}
use Rattle.number_list.specs.declared.iter.Iter.TheVariants as iter
use Rattle.number_list.specs.Outcome.{typed_numbers}

-- n numbers from a place on, four bytes each
unfoldable pub numbers_from : List ℕ → ℕ → ℕ → List Float
numbers_from s at zero = []
numbers_from s at (suc n) = single_of (le32 s at) ∷ numbers_from s (at + 4) n

-- the numbers that a list stands for
unfoldable pub numbers_is : List ℕ → Numbers → List Float
numbers_is s (numbers.Packed at count) = numbers_from s at count
numbers_is s (numbers.Typed at len) = typed_numbers (bytes_from s at len)

-- the numbers that are left of a list
unfoldable pub numbers_left : Iter → List Float
numbers_left (iter.Packed bytes at count i) = numbers_from bytes.now (at + 4 * i) (count - i)
numbers_left (iter.Typed text) = typed_numbers (seen text)
