-- The first byte behind white space is a comma, or a word begins there (Tokens.antt). Assumes nothing.
use Rattle.std.specs.Prelude.{Some}
use Rattle.std.specs.List.{slice_get}
use Rattle.std.proofs.Common.{rules}
use Prim.Native.Nat.{ℕ, ◌<◌}
use native.Mathlib.Omega.{arith}
use mathlib.Core.Path.{◌≡◌, sym, ap, ◌∙◌}
use Rattle.decimal.specs.Windows.{seen}
use Rattle.decimal.proofs.Windows.{some_first}
use Rattle.number_list.specs.Text.{is_space, in_word}
use Rattle.number_list.proofs.Tokens.{comma_next, word_next, word_long}
use Rattle.number_list.proofs.next_token.Goals as goal

pub behind-requires : goal.behind-requires
behind-requires c =
    let h : 0 < c.behind-text.result.len = some_first c.behind-text.result c.in_ok-first.first (sym c.first.ensures ∙ c.in_ok-first.was) in
    omega arith

pub returns-then-first-eq44 : goal.returns-then-first-eq44
returns-then-first-eq44 c =
    let k = c.len_while-spaces.ensures.len is_space (λ b r h p. search rules) in
    let e : slice_get (seen c.behind-text.result) 0 ≡ Some 44 = sym c.first.ensures ∙ c.in_ok-first.was ∙ ap (λ (b : ℕ). Some b) c.if-first-eq44.true in
    let h : 0 < c.behind-text.result.len = some_first c.behind-text.result 44 e in
    (comma_next _ _ _ k c.behind-text.ensures.0 _ e c.behind.ensures.0, omega arith)

pub returns : goal.returns
returns c =
    let k = c.len_while-spaces.ensures.len is_space (λ b r h p. search rules) in
    let j = c.len_while-len.ensures.len in_word (λ b r h p. search rules) in
    let e : slice_get (seen c.behind-text.result) 0 ≡ Some c.in_ok-first.first = sym c.first.ensures ∙ c.in_ok-first.was in
    let l = word_long _ _ _ k c.behind-text.ensures.0 _ _ e c.if-first-eq44.false j in
    (word_next _ _ _ k c.behind-text.ensures.0 _ _ e c.if-first-eq44.false j _ _ c.prefix.ensures.0 c.behind-2.ensures.0, omega arith)
