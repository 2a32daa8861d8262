-- Names of results: the ones that children give themselves in `result`, and the ones that are made for the others. Definitions only.
use Rattle.std.specs.Prelude.{Bool, false, cond, ◌||◌, List, [], ◌∷◌, ◌++◌, map, ℕ, zero, suc, ◌+◌, ◌/◌, ◌%◌, ltb, length, None, Option, Some}
use Rattle.bits.specs.Bytes.{same}
use Rattle.bits.specs.Words.{word}
use Rattle.tree.specs.Input.{Name}

-- whether a text is one of some names, byte for byte
unfoldable pub member : Name → List Name → Bool
member t [] = false
member t (n ∷ ns) = same t n || member t ns

-- n in decimal, for n ≤ f. (The `let` lets the recursion end at the first digit when this is computed.)
unfoldable pub digits_up_to : ℕ → ℕ → List ℕ
digits_up_to zero n = (48 + n) ∷ []
digits_up_to (suc f) n = let r = digits_up_to f (n / 10) in cond (ltb n 10) ((48 + n) ∷ []) (r ++ ((48 + n % 10) ∷ []))

unfoldable pub digits : ℕ → List ℕ
digits n = digits_up_to n n

-- `result`
abbrev pub w_result : Name
w_result = word "result"

-- a made name: `result` and a number in decimal
unfoldable pub made_name : ℕ → Name
made_name n = w_result ++ digits n

-- the first number from k on whose made name is none of some names, where one of the first f + 1 is such
unfoldable pub first_free_up_to : ℕ → List Name → ℕ → ℕ
first_free_up_to zero ns k = k
first_free_up_to (suc f) ns k = let r = first_free_up_to f ns (k + 1) in cond (member (made_name k) ns) r k

-- that is so for f the number of names: `free_is_free` of proofs/Naming
unfoldable pub first_free : List Name → ℕ → ℕ
first_free ns k = first_free_up_to (length ns) ns k

-- what a child's result is called: by its own `result` attribute, or by the number that its name is made of
pub data Label : Type 0 where
  Own : Name → Label
  Made : ℕ → Label

abbrev pub name_of : Label → Name
name_of (Own t) = t
name_of (Made k) = made_name k

-- the explicit names among labels
unfoldable pub own_names : List Label → List Name
own_names [] = []
own_names (Own t ∷ ls) = t ∷ own_names ls
own_names (Made k ∷ ls) = own_names ls

-- `FilterResults`: what the children so far are called, the first of them first, and the counter, which starts at 1
pub record Results : Type 0 where
  pub labels : List Label
  pub idx : ℕ

abbrev pub start : Results
start = record { labels = []; idx = 1 }

abbrev pub names_so_far : Results → List Name
names_so_far st = map name_of st.labels

-- the number for the next made name: the counter's, or the next that skips the explicit names so far
abbrev pub next_free : Results → ℕ
next_free st = first_free (own_names st.labels) st.idx

-- `gen_result`: the label of a child whose `result` attribute is given, or absent
abbrev pub label : Results → Option Name → Label
label st (Some t) = Own t
label st None = Made (next_free st)

-- the counter goes on by 1 for an explicit result, and by 1 for each number that is skipped or used
abbrev pub counter_after : Results → Option Name → ℕ
counter_after st (Some t) = st.idx + 1
counter_after st None = next_free st + 1

abbrev pub after : Results → Option Name → Results
after st o = record { labels = st.labels ++ (label st o ∷ []); idx = counter_after st o }

unfoldable pub after_all : Results → List (Option Name) → Results
after_all st [] = st
after_all st (o ∷ os) = after_all (after st o) os

-- after children with these `result` attributes, in order
abbrev pub results_of : List (Option Name) → Results
results_of os = after_all start os

abbrev pub labels : List (Option Name) → List Label
labels os = (results_of os).labels
