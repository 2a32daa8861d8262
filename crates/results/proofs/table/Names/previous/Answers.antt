-- By whether the slice of entries has a last one. Assumes nothing.
use mathlib.Core.Path.{sym, ap, ◌∙◌}
use Rattle.tree.specs.Input as tree
use Rattle.naming.specs.Names.{name_of, Label}
use Rattle.results.proofs.Tables.{previous_some}
use Rattle.results.proofs.table.Names.previous.Goals as goal

pub returns-in-Some : goal.returns-in-Some
returns-in-Some c =
    let es = c.args.self.now.entries.now in
    record { exact = λ s. ap (λ (l : Label). tree.Reference (name_of l)) (c.name.ensures.exact s) ∙ sym (previous_some s es c.in-Some.e.now c.in-Some.ensures.value) }
