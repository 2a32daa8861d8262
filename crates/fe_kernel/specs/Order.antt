-- feConvolveMatrix of the W3C document Filter Effects Module Level 1: the attribute `order`. Definitions only.
use Rattle.std.specs.Prelude.{ℕ, cond, ltb, ℤ, pos, negsuc, Float, None, Option, Some}
use Rattle.std.specs.Float.Ieee.{to_signed}
use Rattle.names.specs.Ids.{aid_order}
use Rattle.svgtree.specs.Values.{Tried, Node}
use Rattle.svgtree.specs.Readers.{tries_of}
use Rattle.fe_kernel.specs.declared.order.Order.{Order}

-- a number that exceeds 0
abbrev pub above_zero : ℤ → Option ℕ
above_zero (pos n) = cond (ltb 0 n) (Some n) None
above_zero (negsuc n) = None

-- "each cut toward zero to i32 and held", where it exceeds 0, or a default
abbrev pub cut_or : Option Float → ℕ → Option ℕ
cut_or (Some x) default = above_zero (to_signed 31 x)
cut_or None default = Some default

abbrev pub with_rows : ℕ → Option ℕ → Option Order
with_rows x (Some y) = Some (record { columns = x; rows = y })
with_rows x None = None

abbrev pub with_columns : Option ℕ → Option Float → Option Order
with_columns (Some x) second = with_rows x (cut_or second x)
with_columns None second = None

-- "no first means 3, no second the first", where both exceed 0
abbrev pub both_above : (first second : Option Float) → Option Order
both_above first second = with_columns (cut_or first 3) second

abbrev pub or_three : Option Order → Order
or_three (Some o) = o
or_three None = record { columns = 3; rows = 3 }

-- "unless both exceed 0, 3 and 3". The document: a number is cut toward zero there too, and zero or below is an error (not certain). The crate: as
-- said here.
unfoldable pub order_in : Option Tried → Order
order_in (Some t) = or_three (both_above t.first t.second)
order_in None = or_three None

-- how many columns and rows the kernel has
abbrev pub order_of : Node → Order
order_of n = order_in (tries_of n aid_order)
