-- SVG 1.1, section 4.2, the number in an attribute, production by production, as relations between a text and what it says:
--     integer ::= [+-]? [0-9]+
--     number  ::= integer ([Ee] integer)? | [+-]? [0-9]* "." [0-9]+ ([Ee] integer)?
-- The function `item_of` of `decimal`, which the contracts cite, reads this production, no more and no less: theorems `item_complete` (`Number w i` gives
-- `item_of w ≡ some i`) and `item_correct` (the other way). Definitions only.
use Rattle.std.specs.Prelude.{ℕ, Bool, true, false, List, [], ◌∷◌, ◌++◌, length, T}
use Rattle.decimal.specs.Grammar.{TypedItem, is_digit, is_e}

-- [0-9]*
pub data Digits : List ℕ → Type 0 where
  no_digits : Digits []
  more_digits : {d : ℕ} {ds : List ℕ} → T (is_digit d) → Digits ds → Digits (d ∷ ds)

-- [0-9]+
pub data Some : List ℕ → Type 0 where
  some_digits : {d : ℕ} {ds : List ℕ} → T (is_digit d) → Digits ds → Some (d ∷ ds)

-- [+-]?, and whether it is a minus
pub data Sign : List ℕ → Bool → Type 0 where
  no_sign : Sign [] false
  plus : Sign (43 ∷ []) false
  minus : Sign (45 ∷ []) true

-- ([Ee] integer)?, whether the integer has a minus, and its digits
pub data Exponent : List ℕ → Bool → List ℕ → Type 0 where
  no_exponent : Exponent [] false []
  exponent : {e : ℕ} {sign xs : List ℕ} {lower : Bool} → T (is_e e) → Sign sign lower → Some xs → Exponent (e ∷ (sign ++ xs)) lower xs

-- number, one constructor for each side of the bar, and the item that it says
pub data Number : List ℕ → TypedItem → Type 0 where
  without_point : {sign ds es xs : List ℕ} {m l : Bool} → Sign sign m → Some ds → Exponent es l xs
      → Number (sign ++ (ds ++ es)) (record { minus = m; digits = ds; decimals = 0; exponent_minus = l; exponent = xs })
  with_point : {sign ds fs es xs : List ℕ} {m l : Bool} → Sign sign m → Digits ds → Some fs → Exponent es l xs
      → Number (sign ++ (ds ++ (46 ∷ (fs ++ es)))) (record { minus = m; digits = ds ++ fs; decimals = length fs; exponent_minus = l; exponent = xs })
