-- What the parts of a kind that the code reads from a sheet stand for: its inputs and its other fields. Definitions only.
use Rattle.std.specs.Prelude.{ℕ, ◌+◌, ◌≡◌, List, map, Option}
use Rattle.bits.specs.Texts.{maybe_text_is}
use Rattle.svgtree.specs.Parse.{nodes_from}
use Rattle.tree.specs.Input.{Name}
use Rattle.tree.specs.Kinds as spec
use Rattle.tree.specs.Fields.{field_bytes}
use Rattle.child.specs.Means.{kind_is}
use Rattle.child.specs.Merges.{merge_end}
use Rattle.child.specs.Child.{in_of}
use Rattle.child.specs.declared.Kind.{Kind}
use Rattle.list_fields.specs.declared.Inputs.{Inputs}
use Rattle.list_fields.specs.declared.Inputs.TheVariants as inputs

abbrev pub fields_in : List ℕ → Kind → List ℕ
fields_in s k = field_bytes (kind_is s k)

abbrev pub inputs_is : List ℕ → Inputs → spec.Inputs (Option Name)
inputs_is s inputs.Nothing = spec.Nothing
inputs_is s (inputs.One t) = spec.One (maybe_text_is s t)
inputs_is s (inputs.Two t u) = spec.Two (maybe_text_is s t) (maybe_text_is s u)
inputs_is s (inputs.Merge v) = spec.Vec (map in_of (nodes_from s v.first v.count))

-- the number of the node after those that a Vec of inputs is read from
abbrev pub inputs_end : Inputs → ℕ
inputs_end inputs.Nothing = 0
inputs_end (inputs.One t) = 0
inputs_end (inputs.Two t u) = 0
inputs_end (inputs.Merge v) = v.first + v.count

-- these are the inputs of the kind, in every sheet
pub record InputsOf (k : Kind) (r : Inputs) : Type 0 where
  pub read : (s : List ℕ) → inputs_is s r ≡ spec.inputs_in (kind_is s k)
  pub end : inputs_end r ≡ merge_end k
