-- What the entries of the records so far stand for. Definitions only.
use Rattle.std.specs.Prelude.{List}
use Rattle.tree.specs.Input.{Name}
use Rattle.naming.specs.Names.{Label}
use Rattle.results.specs.Means.{labels_by, names_by}
use Rattle.results.specs.declared.table.Names.{Names}

-- their labels, and their names
abbrev pub labels_in : Names → List Label
labels_in n = labels_by n.bytes.now n.entries.now

abbrev pub names_in : Names → List Name
names_in n = names_by n.bytes.now n.entries.now
