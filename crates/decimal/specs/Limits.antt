-- How long a typed number may be, and how far from 1: document 02, [2]. Definitions only.
use Rattle.std.specs.Prelude.{ℕ, ◌+◌, ◌-◌, ◌*◌, Bool, ◌&&◌, cond, List, [], ◌∷◌, length, leb, eqb}
use Rattle.decimal.specs.Grammar.{TypedItem}

-- the whole number that digits are, after the number n that stands before them; `0` is the byte 48
unfoldable pub whole_from : ℕ → List ℕ → ℕ
whole_from n [] = n
whole_from n (d ∷ ds) = whole_from (n * 10 + (d - 48)) ds

abbrev pub whole : List ℕ → ℕ
whole ds = whole_from 0 ds

-- "Digits are counted without leading zeros"
unfoldable pub digit_count : List ℕ → ℕ
digit_count [] = 0
digit_count (d ∷ ds) = cond (eqb d 48) (digit_count ds) (length (d ∷ ds))

-- "the power is the exponent less the decimals": it is `power_up` less `power_down`, and an exponent with a minus goes down
abbrev pub power_up : TypedItem → ℕ
power_up i = cond i.exponent_minus 0 (whole i.exponent)

abbrev pub power_down : TypedItem → ℕ
power_down i = i.decimals + cond i.exponent_minus (whole i.exponent) 0

-- not "more than 15 digits or a power outside −22 to 22"
unfoldable pub in_limits : TypedItem → Bool
in_limits i = leb (digit_count i.digits) 15 && (leb (power_up i) (power_down i + 22) && leb (power_down i) (power_up i + 22))
