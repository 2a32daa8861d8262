-- A refusal of the bytes or of the filter region is the whole answer; else the sheet is accepted, and what its children answer in its own frame hands the
-- claim over. Assumes nothing.
use borrow.Author.Rules.{rules}
use mathlib.Core.Path.{◌≡◌, refl, sym}
use Rattle.std.specs.Prelude.{Err}
use Rattle.sheet_accepted.proofs.Accepted.{few_nodes}
use Rattle.zatongae.proofs.Calls.{check_refused, region_refused, converted}
use Rattle.zatongae.proofs.convert_sheet.Goals as goal

pub returns-in_err-check : goal.returns-in_err-check
returns-in_err-check c =
    let a = c.args in
    let e : c.from_residual.result ≡ Err c.in_err-check.field-0.0 = search rules in
    rw e (check_refused a.sheet.now a.out.now _ _ (sym c.in_err-check.ensures) (refl, refl))

pub returns-in_err-region : goal.returns-in_err-region
returns-in_err-region c =
    let a = c.args in
    let e : c.from_residual-in_err-region.result ≡ Err c.in_err-region.field-0.0 = search rules in
    rw e (region_refused a.sheet.now a.out.now _ _ (sym c.in_ok-check.ensures) (sym c.in_err-region.ensures) (refl, refl))

pub invariant_of-convert_children : goal.invariant_of-convert_children
invariant_of-convert_children c = record { few = few_nodes c.args.sheet.now (sym c.in_ok-check.ensures) }

pub returns : goal.returns
returns c =
    let a = c.args in
    converted a.sheet.now a.out.now _ (λ i. (c.type_inv.sheet i).fits) _ (sym c.in_ok-check.ensures) (sym c.in_ok-region.ensures)
    c.frame_of-frame.result c.frame_of-frame.ensures _ c.convert_children.ensures
