-- `any` tests each entry, of which each is marked. Assumes nothing.
use mathlib.Core.Path.{sym, ◌∙◌}
use Rattle.std.proofs.Common.{rules, tests}
use Rattle.std.proofs.lemmas.Iterator.{YieldsList-from_slice}
use Rattle.std.proofs.lemmas.Iterator.Adapters.{serves_from_places}
use Rattle.std.proofs.lemmas.Iterator.Search.{any_from_yields_List}
use Rattle.bits.specs.Bytes.{same}
use Rattle.bits.specs.Texts.{text_is}
use Rattle.naming.specs.Names.{name_of}
use Rattle.results.specs.Means.{entry_is}
use Rattle.results.proofs.Tables.{has_any, marked_at}
use Rattle.results.proofs.table.Names.has.Goals as goal

pub any-requires-clause-callable : goal.any-requires-clause-callable
any-requires-clause-callable c =
    let n = c.args.self.now in
    serves_from_places (YieldsList-from_slice n.entries.now cc) (λ x q r. search (rules, tests))
    (λ x k h e. let marked = marked_at n.bytes.now n.entries.now n.marked k x.now h e in search rules)

pub returns : goal.returns
returns c =
    let n = c.args.self.now in
    let t = text_is n.bytes.now c.args.t in
    any_from_yields_List (λ e. same t (name_of (entry_is n.bytes.now e))) _ _ _ c.any.ensures.ran (YieldsList-from_slice n.entries.now cc) (λ x b q k. search (rules, tests)) ∙ sym (has_any n.bytes.now t n.entries.now)
