-- A frame that can place nothing makes no primitive; else the answer is that of the chain which the tables stand for. Assumes nothing.
use mathlib.Core.Path.{refl, sym, ◌∙◌}
use lib.ListN.{length}
use Rattle.std.proofs.lemmas.Result.{err_from_is_err_and}
use Rattle.answer.proofs.Laws.{answers_as, refused_by}
use Rattle.answer.specs.declared.Refusal.TheVariants.{NoPrimitive}
use Rattle.svgtree.specs.Parse.{sheet_of}
use Rattle.convert.specs.Children.{list_of}
use Rattle.convert.proofs.Claims.{none_placed, by_chain}
use Rattle.convert.proofs.convert_children.Goals as goal

pub returns-then-not-is_placeable : goal.returns-then-not-is_placeable
returns-then-not-is_placeable c =
    let a = c.args in
    let no = sym c.is_placeable.ensures ∙ c.if-not-is_placeable.true in
    refused_by list_of a.out.now _ _ NoPrimitive (none_placed a.frame (sheet_of a.sheet.bytes.now).nodes (length a.out.now) no) (refl, refl)

pub returns-in_err-collect_children : goal.returns-in_err-collect_children
returns-in_err-collect_children c =
    let a = c.args in
    let yes = sym c.is_placeable.ensures ∙ c.if-not-is_placeable.false in
    let refusal = err_from_is_err_and c.from_residual.result c.from_residual.ensures.1 in
    rw (refusal.1, refusal.2)
    (refused_by list_of a.out.now _ _ _ (by_chain a.frame (sheet_of a.sheet.bytes.now).nodes (length a.out.now) _ yes c.in_err-collect_children.ensures.exact) (refl, refl))

pub returns : goal.returns
returns c =
    let a = c.args in
    let yes = sym c.is_placeable.ensures ∙ c.if-not-is_placeable.false in
    answers_as list_of a.out.now _ _ (by_chain a.frame (sheet_of a.sheet.bytes.now).nodes (length a.out.now) _ yes c.in_ok-collect_children.ensures.exact) c.finish.ensures
