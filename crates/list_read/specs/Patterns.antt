-- "A number in the list is any f32 in it": the bit patterns of the f32 of a record, in the order in which they are written. Definitions only.
use Rattle.std.specs.Prelude.{ℕ, List, [], ◌∷◌, ◌++◌, None, Option, Some}
use Rattle.list_read.specs.Read.{Got, outside, got, read32, read_many}
use Rattle.list_read.specs.Layout.{Layout, layout_of, walk_fields}
use Rattle.list_read.specs.Records.{ListRecord}

abbrev pub walk_kind : Option Layout → List ℕ → Got (List ℕ)
walk_kind None xs = outside
walk_kind (Some l) xs = walk_fields l.fields xs

abbrev pub patterns_in : Got (List ℕ) → List ℕ
patterns_in outside = []
patterns_in (got ns r) = ns

-- the rectangle's, and the fields'
abbrev pub record_patterns : {R : Type 0} → ListRecord R → List ℕ
record_patterns r = patterns_in (read_many read32 4 r.rect) ++ patterns_in (walk_kind (layout_of r.kind) r.fields)

unfoldable pub list_patterns : {R : Type 0} → List (ListRecord R) → List ℕ
list_patterns [] = []
list_patterns (r ∷ rs) = record_patterns r ++ list_patterns rs
