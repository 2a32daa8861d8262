-- A typed list: "items parted by white space (space, tab, line feed, carriage return), one comma, or a comma among white space; outer white space is
-- allowed and empty text is the empty list", as relations between a text and its items. The function `items_of` of `number_list`, which the contracts cite,
-- reads these texts, no more and no less: theorems `list_complete` (`Listed t is` gives `items_of t ≡ some is`) and `list_correct` (the other way).
-- Definitions only.
use Rattle.std.specs.Prelude.{ℕ, List, [], ◌∷◌, ◌++◌, T}
use Rattle.decimal.specs.Grammar.{TypedItem}
use Rattle.number_list.specs.Text.{is_space}
use Rattle.number_grammar.specs.Production.{Number}

-- white space, or none
pub data Gap : List ℕ → Type 0 where
  no_gap : Gap []
  gap : {b : ℕ} {g : List ℕ} → T (is_space b) → Gap g → Gap (b ∷ g)

-- what parts two items: white space, one comma, or a comma among white space
pub data Parting : List ℕ → Type 0 where
  spaced : {b : ℕ} {g : List ℕ} → T (is_space b) → Gap g → Parting (b ∷ g)
  comma : {g h : List ℕ} → Gap g → Gap h → Parting (g ++ (44 ∷ h))

-- one item or more
pub data Items : List ℕ → List TypedItem → Type 0 where
  one_item : {w : List ℕ} {i : TypedItem} → Number w i → Items w (i ∷ [])
  more_items : {w p t : List ℕ} {i : TypedItem} {is : List TypedItem} → Number w i → Parting p → Items t is → Items (w ++ (p ++ t)) (i ∷ is)

-- a list: empty, or its items with white space around them, or none
pub data Listed : List ℕ → List TypedItem → Type 0 where
  empty : {g : List ℕ} → Gap g → Listed g []
  listed : {g t h : List ℕ} {is : List TypedItem} → Gap g → Items t is → Gap h → Listed (g ++ (t ++ h)) is
