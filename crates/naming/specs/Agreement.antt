-- What a reader of the list finds at an input (`lookup`), what the document says that it is (`rule`), and the claim that the two agree at every input
-- of the list. Definitions only.
use Rattle.std.specs.Prelude.{◌≡◌, Bool, false, cond, List, [], ◌∷◌, map, ℕ, suc, ◌<◌, length, get_or, take, None, Option, Some, option_map, unwrap_or}
use Rattle.bits.specs.Bytes.{same}
use Rattle.tree.specs.Input.{Name, Input, SourceGraphic, SourceAlpha, Reference}
use Rattle.naming.specs.Names.{member, made_name, Label, Own, Made, labels}
use Rattle.naming.specs.Inputs.{w_source_graphic, w_source_alpha, unsupported_inputs}

-- a child that counts, as far as names go: its own `result`, and its inputs in order, each a text or absent
pub record ChildNames : Type 0 where
  pub own : Option Name
  pub inputs : List (Option Name)

-- a record of the list, as far as names go
pub record RecordNames : Type 0 where
  pub result : Name
  pub inputs : List Input

-- an image that an input can stand for: a source, or the result of one child, and so of one record, by its number, counted from 0
pub data InputImage : Type 0 where
  graphic alpha : InputImage
  nth : ℕ → InputImage

-- the number of the last element that passes a test

abbrev pub later : Option ℕ → Bool → Option ℕ
later None b = cond b (Some 0) None
later (Some k) b = Some (suc k)

unfoldable pub last_with : {A : Type 0} → (A → Bool) → List A → Option ℕ
last_with p [] = None
last_with p (x ∷ xs) = later (last_with p xs) (p x)

-- The reader's lookup, with the results of the records before the input's own: a source stands for itself, and a reference for the newest of those
-- records whose result it names; none where no record has it

unfoldable pub lookup : List Name → Input → Option InputImage
lookup ns SourceGraphic = Some graphic
lookup ns SourceAlpha = Some alpha
lookup ns (Reference t) = option_map nth (last_with (same t) ns)

-- The document's rule, with the labels of the children before the input's own

-- what a reserved word stands for: each source for itself, and the four inputs that are not supported for SourceGraphic
abbrev pub reserved : Name → Option InputImage
reserved t = cond (same t w_source_alpha) (Some alpha) (cond (member t (w_source_graphic ∷ unsupported_inputs)) (Some graphic) None)

abbrev pub is_own : Name → Label → Bool
is_own t (Own u) = same t u
is_own t (Made k) = false

abbrev pub is_made : Name → Label → Bool
is_made t (Own u) = false
is_made t (Made k) = same t (made_name k)

-- the child directly before, or SourceGraphic for the first
abbrev pub directly : List Label → InputImage
directly [] = graphic
directly (l ∷ ls) = nth (length ls)

abbrev pub or_else : Option ℕ → Option ℕ → Option ℕ
or_else None o = o
or_else (Some k) o = Some k

-- The child that a text names: the newest of those before whose own result it is. The document: no other. The crate: where it is no child's own, the child
-- without a result that the name was made for. There is one at most: `made_distinct` of proofs/Made
abbrev pub called : Name → List Label → Option ℕ
called t before = or_else (last_with (is_own t) before) (last_with (is_made t) before)

-- a reserved word is its source, and any other text the child that it names; where it names none, and where the input is absent, it is the child
-- directly before
unfoldable pub rule : List Label → Option Name → InputImage
rule before None = directly before
rule before (Some t) = unwrap_or (reserved t) (unwrap_or (option_map nth (called t before)) (directly before))

-- The claim

abbrev pub owns : List ChildNames → List (Option Name)
owns cs = map (λ (c : ChildNames). c.own) cs

abbrev pub result_names : List RecordNames → List Name
result_names rs = map (λ (r : RecordNames). r.result) rs

-- the inputs of child i, and of record i

abbrev pub inputs_at : List ChildNames → ℕ → List (Option Name)
inputs_at cs i = (get_or cs i (record { own = None; inputs = [] })).inputs

abbrev pub written_at : List RecordNames → ℕ → List Input
written_at rs i = (get_or rs i (record { result = []; inputs = [] })).inputs

-- there is one record for each child, with as many inputs as the child has; and at every input, lookup among the records before gives what the rule
-- gives among the children before: the same source, or record n and child n. A reference that is found nowhere would be `none`
pub record Agrees (cs : List ChildNames) (rs : List RecordNames) : Type 0 where
  pub one_each : length rs ≡ length cs
  pub inputs_each : (i : ℕ) → i < length cs → length (written_at rs i) ≡ length (inputs_at cs i)
  pub agree : (i : ℕ) → i < length cs → (j : ℕ) → j < length (inputs_at cs i)
      → lookup (result_names (take i rs)) (get_or (written_at rs i) j SourceGraphic) ≡ Some (rule (labels (owns (take i cs))) (get_or (inputs_at cs i) j None))
