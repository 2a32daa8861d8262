-- At the end, at a comma and at a word, what comes of the text is what comes of it after the step (Steps.antt). Assumes nothing.
use Rattle.std.proofs.lemmas.Result.{err_from_is_err_and}
use mathlib.Core.Path.{◌∙◌}
use Rattle.number_list.proofs.Steps.{goes_end, goes_comma, goes_word}
use Rattle.number_list.proofs.one_step.Goals as goal

pub returns-in_err-at_end-in-None : goal.returns-in_err-at_end-in-None
returns-in_err-at_end-in-None c =
    let (e, w) = c.next_token.ensures in
    let p = err_from_is_err_and c.from_residual.result c.from_residual.ensures.1 in
    rw (p.1, p.2) (c.in_err-at_end-in-None.ensures ∙ goes_end _ _ _ _ _ _ c.requires e w c.in-None.is, tt)

pub returns-in_ok-at_end-in-None : goal.returns-in_ok-at_end-in-None
returns-in_ok-at_end-in-None c =
    let (e, w) = c.next_token.ensures in
    (c.in_ok-at_end-in-None.ensures ∙ goes_end _ _ _ _ _ _ c.requires e w c.in-None.is, tt)

pub returns-in-Some-Comma : goal.returns-in-Some-Comma
returns-in-Some-Comma c =
    let x = c.in-Some-Comma in
    let (e, w) = c.next_token.ensures in
    rw c.at_comma.ensures (goes_comma _ _ _ _ _ _ c.requires e w x.rest (cc))

pub returns-in-Some-Word : goal.returns-in-Some-Word
returns-in-Some-Word c =
    let x = c.in-Some-Word in
    let (e, w) = c.next_token.ensures in
    rw c.at_word.ensures (goes_word _ _ _ _ _ _ c.requires e w x.word x.rest (cc) _ c.check_word.ensures)
