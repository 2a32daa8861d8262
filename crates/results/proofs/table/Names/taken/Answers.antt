-- `any` tests each entry, of which each is marked. Assumes nothing.
use mathlib.Core.Path.{sym, ◌∙◌}
use mathlib.Core.List.{◌++◌}
use Rattle.std.proofs.Common.{rules, tests}
use Rattle.std.proofs.lemmas.Iterator.{YieldsList-from_slice}
use Rattle.std.proofs.lemmas.Iterator.Adapters.{serves_from_places}
use Rattle.std.proofs.lemmas.Iterator.Search.{any_from_yields_List}
use Rattle.naming.specs.Names.{w_result}
use Rattle.naming.specs.Agreement.{is_own}
use Rattle.results.specs.Means.{entry_is}
use Rattle.results.proofs.Tables.{taken_any, marked_at}
use Rattle.results.proofs.table.Names.taken.Goals as goal

pub any-requires-clause-callable : goal.any-requires-clause-callable
any-requires-clause-callable c =
    let n = c.args.self.now in
    serves_from_places (YieldsList-from_slice n.entries.now cc) (λ x q r. search (rules, tests))
    (λ x k h e. let marked = marked_at n.bytes.now n.entries.now n.marked k x.now h e in search rules)

pub returns : goal.returns
returns c =
    let n = c.args.self.now in
    let t = w_result ++ c.args.digits.now in
    any_from_yields_List (λ e. is_own t (entry_is n.bytes.now e)) _ _ _ c.any.ensures.ran (YieldsList-from_slice n.entries.now cc) (λ x b q k. search (rules, tests)) ∙ sym (taken_any n.bytes.now t n.entries.now)
