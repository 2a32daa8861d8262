-- What the code keeps of a typed number: its digits and its exponent as whole numbers, held at 10 ^ 15. Definitions only.
use Rattle.decimal.specs.declared.TextFault.{TextFault}
use Rattle.std.specs.Prelude.{ℕ, suc, ℤ, pos, negsuc, neg_ℤ, ◌-ℤ◌, ◌≤◌, ◌*◌, ◌^◌, min, ◌≡◌, Bool, true, ◌&&◌, cond, List, [], ◌∷◌, length, drop, ltb, leb, Float, Err, None, Ok, Option, Result, Some}
use Rattle.std.specs.Float.{binary64}
use Rattle.std.specs.Float.Ieee.{round}
use Rattle.num.specs.Constants.{plus_zero}
use Rattle.num.specs.Narrowed.{narrowed, or_zero}
use Rattle.decimal.specs.Grammar.{TypedItem, is_digit, leading_digits, after_digits}
use Rattle.decimal.specs.Limits.{whole, whole_from, in_limits}
use Rattle.decimal.specs.declared.Decimal.{Decimal}
use Rattle.decimal.specs.declared.TextFault.TheVariants as fault

-- the least number of 16 digits
abbrev pub limit : ℕ
limit = 1000000000000000

-- ± e
abbrev pub signed_exponent : Bool → ℕ → ℤ
signed_exponent minus e = cond minus (neg_ℤ (pos e)) (pos e)

-- an item as the code keeps it, and what the code keeps of a word that may be an item
abbrev pub held_item : TypedItem → Decimal
held_item i =
    record {
      minus = i.minus;
      digits = min (whole i.digits) limit;
      power = signed_exponent i.exponent_minus (min (whole i.exponent) limit) -ℤ pos i.decimals;
    }

abbrev pub held_in : Option TypedItem → Option Decimal
held_in None = None
held_in (Some i) = Some (held_item i)

-- whether a word is an item within the limits
unfoldable pub item_check : Option TypedItem → Result (Unit {0}) TextFault
item_check None = (Err fault.OutsideGrammar)
item_check (Some i) = cond (in_limits i) (Ok tt) (Err fault.OutsideLimits)

-- each byte is a digit
unfoldable pub all_digits : List ℕ → Bool
all_digits [] = true
all_digits (d ∷ ds) = is_digit d && all_digits ds

-- n digits stand first, and no more; v is their number after w, held
pub record DigitsOf (t : List ℕ) (w n v : ℕ) : Type 0 where
  pub within : n ≤ length t
  pub many : length (leading_digits t) ≡ n
  pub low : v ≤ limit
  pub number : v ≡ min (whole_from w (leading_digits t)) limit
  pub next : after_digits t ≡ drop n t

-- ---- the limits and the worth of an item that is kept so: the definitions of Limits.antt and Value.antt, on what is held

-- a power of ten is `raised` less `lowered`, of which one is 0
abbrev pub raised : ℤ → ℕ
raised (pos n) = n
raised (negsuc n) = 0

abbrev pub lowered : ℤ → ℕ
lowered (pos n) = 0
lowered (negsuc n) = suc n

-- digits that are held are too many
unfoldable pub in_limits_held : Decimal → Bool
in_limits_held d = ltb d.digits limit && (leb (raised d.power) 22 && leb (lowered d.power) 22)

-- the nearest f64, and its f32, +0 outside the limits
unfoldable pub double_held : Decimal → Float
double_held d = round binary64 d.minus (d.digits * 10 ^ raised d.power) (10 ^ lowered d.power)

unfoldable pub value_held : Decimal → Float
value_held d = cond (in_limits_held d) (or_zero (narrowed (double_held d))) plus_zero
