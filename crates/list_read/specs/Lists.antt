-- A list as bytes, and how it is read, over the form. Definitions only.
use Rattle.std.specs.Prelude.{ℕ, zero, suc, ◌+◌, ◌*◌, List, [], ◌∷◌, leb, eqb, length}
use Rattle.list_read.specs.Read.{Got, outside, got, and_then, only_if, read_byte, read16, read32, read_many}
use Rattle.list_read.specs.Records.{Form, ListRecord, read_record}

-- these bytes in front
unfoldable pub read_opening : List ℕ → List ℕ → Got (List ℕ)
read_opening [] xs = got [] xs
read_opening (b ∷ bs) xs = and_then (read_byte xs) (λ a r. only_if (eqb a b) (read_opening bs r))

module _ {R : Type 0} (f : Form R) where
  -- n records, the first of them at the offset `at`: `pairs` are their pairs of offset and length, `xs` all bytes from that offset on.
  -- Records touch, and the last ends the list
  unfoldable pub read_records : ℕ → ℕ → List ℕ → List ℕ → Got (List (ListRecord R))
  read_records zero at pairs [] = got [] []
  read_records zero at pairs (x ∷ xs) = outside
  read_records (suc n) at pairs xs =
      and_then (read32 pairs)
      (λ offset pairs₁. only_if (eqb offset at)
      (and_then (read32 pairs₁)
      (λ size pairs₂. and_then (read_many read_byte size xs)
      (λ ys rest. and_then (read_record f ys)
      (λ r none'. and_then (read_records n (at + size) pairs₂ rest)
      (λ rs none''. got (r ∷ rs) []))))))

  -- "u16 count, pairs .., records touching": `before` bytes stand before the count. "Outside the layout are more than 512 primitives"
  unfoldable pub read_counted : ℕ → List ℕ → Got (List (ListRecord R))
  read_counted before xs =
      and_then (read16 xs)
      (λ n r₁. only_if (leb n 512)
      (and_then (read_many read_byte (8 * n) r₁)
      (λ pairs r₂. read_records n (before + 2 + 8 * n) pairs r₂)))

  -- offsets count from the list's first byte
  unfoldable pub read_list : List ℕ → Got (List (ListRecord R))
  read_list xs = and_then (read_opening f.opening xs) (λ none' r. read_counted (length f.opening) r)
