-- A number as it is typed: SVG 1.1, section 4.2, the production for attributes, taken literally:
--     integer ::= [+-]? [0-9]+
--     number  ::= integer ([Ee] integer)? | [+-]? [0-9]* "." [0-9]+ ([Ee] integer)?
-- What a run of bytes says is kept as it stands there; its limits and its value are said elsewhere. That these functions read the production, no more and
-- no less, is a theorem (`item_complete`, `item_correct` of `number_grammar`). Definitions only.
use Rattle.std.specs.Prelude.{ℕ, Bool, false, ◌&&◌, ◌||◌, cond, List, [], ◌∷◌, ◌++◌, length, leb, eqb, None, Option, Some}

-- ± digits × 10 ^ (± exponent − decimals). Digits are the bytes `0` to `9`, those before the point and those after it; `decimals` is how many stand after
-- it. A number without an exponent has no digit there
pub record TypedItem : Type 0 where
  pub minus : Bool
  pub digits : List ℕ
  pub decimals : ℕ
  pub exponent_minus : Bool
  pub exponent : List ℕ

-- [0-9]
unfoldable pub is_digit : ℕ → Bool
is_digit b = leb 48 b && leb b 57

-- [Ee]
unfoldable pub is_e : ℕ → Bool
is_e b = eqb b 69 || eqb b 101

-- [+-]?: whether it is a minus, and what follows it
unfoldable pub negative : List ℕ → Bool
negative [] = false
negative (b ∷ t) = eqb b 45

unfoldable pub unsigned : List ℕ → List ℕ
unsigned [] = []
unsigned (b ∷ t) = cond (eqb b 43 || eqb b 45) t (b ∷ t)

-- [0-9]*: the digits up to the first byte that is none, and what follows them
unfoldable pub leading_digits : List ℕ → List ℕ
leading_digits [] = []
leading_digits (b ∷ t) = cond (is_digit b) (b ∷ leading_digits t) []

unfoldable pub after_digits : List ℕ → List ℕ
after_digits [] = []
after_digits (b ∷ t) = cond (is_digit b) (after_digits t) (b ∷ t)

-- the exponent's digits, one at least, and then the end
unfoldable pub power : Bool → List ℕ → ℕ → Bool → (es rest : List ℕ) → Option TypedItem
power m ds k l [] rest = None
power m ds k l (e ∷ es) [] = Some (record { minus = m; digits = ds; decimals = k; exponent_minus = l; exponent = e ∷ es })
power m ds k l (e ∷ es) (b ∷ t) = None

-- ([Ee] integer)? and then the end
unfoldable pub scaled : Bool → List ℕ → ℕ → (rest : List ℕ) → Option TypedItem
scaled m ds k [] = Some (record { minus = m; digits = ds; decimals = k; exponent_minus = false; exponent = [] })
scaled m ds k (b ∷ t) = cond (is_e b) (power m ds k (negative t) (leading_digits (unsigned t)) (after_digits (unsigned t))) None

-- with no point: one digit at least
unfoldable pub plain : Bool → (ds rest : List ℕ) → Option TypedItem
plain m [] rest = None
plain m (d ∷ ds) rest = scaled m (d ∷ ds) 0 rest

-- after a point: one digit at least
unfoldable pub pointed : Bool → (ds fs rest : List ℕ) → Option TypedItem
pointed m ds [] rest = None
pointed m ds (f ∷ fs) rest = scaled m (ds ++ (f ∷ fs)) (length (f ∷ fs)) rest

-- the sign and the first digits are read: a point, which is the byte 46, or none
unfoldable pub signed : Bool → (ds rest : List ℕ) → Option TypedItem
signed m ds [] = plain m ds []
signed m ds (b ∷ t) = cond (eqb b 46) (pointed m ds (leading_digits t) (after_digits t)) (plain m ds (b ∷ t))

-- the number that a run of bytes is, or none
unfoldable pub item_of : List ℕ → Option TypedItem
item_of w = signed (negative w) (leading_digits (unsigned w)) (after_digits (unsigned w))
