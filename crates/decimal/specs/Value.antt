-- What a typed number is worth: document 02, [2]. Definitions only.
use Rattle.std.specs.Prelude.{◌-◌, ◌*◌, ◌^◌, cond, Float, None, Option, Some}
use Rattle.std.specs.Float.{binary64}
use Rattle.std.specs.Float.Ieee.{round}
use Rattle.num.specs.Constants.{plus_zero}
use Rattle.num.specs.Narrowed.{narrowed}
use Rattle.decimal.specs.Grammar.{TypedItem}
use Rattle.decimal.specs.Limits.{whole, power_up, power_down, in_limits}

-- "whole digits times a power of ten, taken to the nearest f64, ties to even": `round` takes the fraction to it in one step and keeps the sign, "on zero
-- too". A power below 0 is the fraction's lower part; of the two powers of ten one is 1
unfoldable pub nearest_double : TypedItem → Float
nearest_double i = round binary64 i.minus (whole i.digits * 10 ^ (power_up i - power_down i)) (10 ^ (power_down i - power_up i))

-- "and then narrowed as lengths are"
unfoldable pub item_value : TypedItem → Float
item_value i = narrowed (nearest_double i)

-- the number that is read where an item stands, +0 where there is none or it is outside the limits. A sheet with such a text is refused, so no list is
-- made of that +0 (theorem `read_as_given` of `sheet_accepted`)
unfoldable pub item_value_in : Option TypedItem → Float
item_value_in None = plus_zero
item_value_in (Some i) = cond (in_limits i) (item_value i) plus_zero
