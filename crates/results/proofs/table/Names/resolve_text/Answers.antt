-- By what `parse_in` reads; a text that it reads as a reference it reads as itself (`read_name`). Assumes nothing.
use mathlib.Core.Path.{sym, ap, ◌∙◌}
use Rattle.naming.specs.Inputs.{settled}
use Rattle.naming.proofs.Claim.{read_name}
use Rattle.bits.specs.Texts.{text_is}
use Rattle.results.specs.Means.{input_is}
use Rattle.results.specs.Table.{names_in}
use Rattle.results.proofs.table.Names.resolve_text.Goals as goal

pub returns-in-Reference : goal.returns-in-Reference
returns-in-Reference c =
    let n = c.args.self.now in
    let t = text_is n.bytes.now c.args.t in
    c.reference.ensures ∙ ap (settled (names_in n)) (sym (read_name t _ (sym c.parse_in-input.ensures ∙ ap (input_is n.bytes.now) c.in-Reference.is)))
