-- What a child, read from the sheet, is in the list, with the names of the records before it, by their entries. Definitions only.
use Rattle.std.specs.Prelude.{ℕ, List, Option}
use Rattle.tree.specs.Input.{Name, Input, input_bytes}
use Rattle.tree.specs.Kinds.{Primitive, map_kind}
use Rattle.child.specs.Means.{kind_is}
use Rattle.child.specs.declared.Child.{Child}
use Rattle.naming.specs.Inputs.{resolve}
use Rattle.results.specs.Means.{name_is, names_by}
use Rattle.results.specs.declared.ResultName.{ResultName}
use Rattle.results.specs.declared.table.Names.{Names}

-- an input, as it is read and as it is written
abbrev pub input_at : (s entries : List ℕ) → Option Name → Input
input_at s entries t = resolve (names_by s entries) t

-- its bytes
abbrev pub input_bytes_at : (s entries : List ℕ) → Option Name → List ℕ
input_bytes_at s entries t = input_bytes (input_at s entries t)

-- the primitive of a child under a name
abbrev pub primitive_at : (s entries : List ℕ) → ResultName → Child → Primitive
primitive_at s entries name c =
    record {
      rect = c.rect;
      color_interpolation = c.color_interpolation;
      result = name_is s name;
      kind = map_kind (input_at s entries) (kind_is s c.kind);
    }

-- the same by the entries of the records so far

abbrev pub input_bytes_in : Names → Option Name → List ℕ
input_bytes_in n t = input_bytes_at n.bytes.now n.entries.now t

abbrev pub primitive_in : Names → ResultName → Child → Primitive
primitive_in n name c = primitive_at n.bytes.now n.entries.now name c
