-- Demand 3 of what is read from the output's bytes. Definitions only.
use Rattle.std.specs.Prelude.{ℕ, not, List, [], ◌∷◌, T}
use Rattle.std.specs.Float.{binary32}
use Rattle.std.specs.Float.Ieee.{nan_bits}
use Rattle.tree.specs.Input.{Name}
use Rattle.naming.specs.Agreement.{RecordNames}
use Rattle.list_read.specs.Records.{ListRecord}

-- a record that was read, as far as names go
abbrev pub read_names : ListRecord Name → RecordNames
read_names r = record { result = r.result; inputs = r.inputs }

-- no pattern of an f32 is a NaN's
unfoldable pub NoNan : List ℕ → Type 0
NoNan [] = Unit {0}
NoNan (n ∷ ns) = T (not (nan_bits binary32 n)) × NoNan ns
