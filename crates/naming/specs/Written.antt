-- The converter's list as far as names go: one record for each child, made with what the children before it are called. The claim of Agreement.antt
-- is proved of it. Definitions only.
use Rattle.std.specs.Prelude.{List, [], ◌∷◌, map}
use Rattle.naming.specs.Names.{name_of, Results, start, names_so_far, label, after}
use Rattle.naming.specs.Agreement.{ChildNames, RecordNames}
use Rattle.naming.specs.Inputs.{resolve}

abbrev pub record_names_of : Results → ChildNames → RecordNames
record_names_of st c = record { result = name_of (label st c.own); inputs = map (resolve (names_so_far st)) c.inputs }

unfoldable pub record_names_from : Results → List ChildNames → List RecordNames
record_names_from st [] = []
record_names_from st (c ∷ cs) = record_names_of st c ∷ record_names_from (after st c.own) cs

abbrev pub all_record_names : List ChildNames → List RecordNames
all_record_names cs = record_names_from start cs
