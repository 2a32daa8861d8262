-- Whether a text is read, step by step: at its end, at a comma and at a word, what comes of it is what comes of it after the step. Assumes nothing.
use Rattle.decimal.specs.declared.TextFault.{TextFault}
use Rattle.std.specs.Prelude.{Err, None, Ok, Option, Result, Some}
use Prim.Native.Nat.{ℕ, suc, ◌+◌, ◌≤◌, ◌<◌}
use native.Mathlib.Nat.{zero-add}
use native.Mathlib.Omega.{arith}
use mathlib.Core.Path.{◌≡◌, refl, sym, ap, ◌∙◌}
use mathlib.Core.Bool.{Bool, true, false, ◌&&◌, cond, and-true, and-false, and_assoc}
use mathlib.Core.List.{List, [], ◌∷◌, map}
use lib.ListN.{length}
use lib.Dec.{eqb, ltb}
use borrow.Author.Tests.{lt-ltb, le-ltb, eqb-true, eqb-false}
use Rattle.decimal.specs.Grammar.{TypedItem, item_of}
use Rattle.decimal.specs.Limits.{in_limits}
use Rattle.decimal.specs.Value.{item_value}
use Rattle.decimal.specs.Means.{item_check}
use Rattle.number_list.specs.declared.Before.{Before}
use Rattle.number_list.specs.declared.Before.TheVariants as before
use Rattle.decimal.specs.declared.window.Window.{Window}
use Rattle.decimal.specs.Windows.{seen}
use Rattle.number_list.specs.declared.Token.{Token}
use Rattle.number_list.specs.declared.Token.TheVariants as token
use Rattle.number_list.specs.Text.{Part, comma_part, word_part, parts, and_more, items_from, items_of}
use Rattle.number_list.specs.Outcome.{all_in_limits, items_outcome, text_outcome, passed, outside_grammar, outside_limits}
use Rattle.number_list.specs.Means.{outcome_check, check_after, check_from, end_check, comma_step, checked_step, word_step, text_step_is, TextStepWithin, token_is, TokenWithin}
use Rattle.decimal.specs.declared.TextFault.TheVariants as fault

-- ---- before the first item
after_none : (o : Option (List TypedItem)) → outcome_check (items_outcome o) ≡ check_after 0 true o
unfolding items_outcome check_after
after_none None = refl
after_none (Some is) =
    go (ltb 1024 (length is)) (all_in_limits is)
    ∙ ap (λ (n : ℕ). cond (ltb 1024 n) (Err fault.OutsideGrammar) (cond (all_in_limits is) (Ok tt) (Err fault.OutsideLimits))) (sym (zero-add (length is)))
  where
    go : (over within : Bool)
        → outcome_check (cond over outside_grammar (cond within (passed (map item_value is)) outside_limits)) ≡ cond over (Err fault.OutsideGrammar) (cond within (Ok tt) (Err fault.OutsideLimits))
    go true within = refl
    go false true = refl
    go false false = refl

pub check_start : (t : List ℕ) → outcome_check (text_outcome t) ≡ check_from t before.Start 0 true
check_start t = after_none (items_of t)

-- ---- at the end
end_items : (n : ℕ) (ok : Bool) → n ≤ 1024 → cond ok (Ok tt) (Err fault.OutsideLimits) ≡ check_after n ok (Some [])
unfolding check_after all_in_limits
end_items n ok h =
    let z : n + 0 ≤ 1024 = omega arith in
    rw (le-ltb 1024 (n + 0) z, and-true ok)

pub step_end_lem : (b : Before) (n : ℕ) (ok : Bool) → n ≤ 1024 → end_check b ok ≡ check_after n ok (items_from b [])
unfolding items_from check_after
step_end_lem before.Start n ok h = end_items n ok h
step_end_lem before.Item n ok h = end_items n ok h
step_end_lem before.Comma n ok h = refl

-- ---- at a comma
module _ (r : Window) (n : ℕ) (ok : Bool) where
  pub step_comma : (b : Before) → text_step_is (comma_step b r n ok) ≡ check_after n ok (items_from b (comma_part ∷ parts (seen r)))
  unfolding items_from check_after
  step_comma before.Start = refl
  step_comma before.Item = refl
  step_comma before.Comma = refl

  pub comma_within : (len : ℕ) (b : Before) → r.len < len → n ≤ 1024 → TextStepWithin len (comma_step b r n ok)
  comma_within len before.Start f h = tt
  comma_within len before.Item f h = (f, h)
  comma_within len before.Comma f h = tt

-- ---- at a word
pub item_more : (b : Before) (w : List ℕ) (ps : List Part) → items_from b (word_part w ∷ ps) ≡ and_more (item_of w) (items_from before.Item ps)
unfolding items_from
item_more before.Start w ps = refl
item_more before.Item w ps = refl
item_more before.Comma w ps = refl

over : (ok : Bool) (i : TypedItem) (r : Option (List TypedItem)) → (Err fault.OutsideGrammar) ≡ check_after 1024 ok (and_more (Some i) r)
unfolding check_after and_more
over ok i None = refl
over ok i (Some is) =
    let h : 1024 < 1024 + suc (length is) = omega arith in
    rw (lt-ltb 1024 (1024 + suc (length is)) h)

no_number : (n : ℕ) (ok : Bool) (r : Option (List TypedItem)) → (Err fault.OutsideGrammar) ≡ check_after n ok (and_more None r)
unfolding check_after and_more
no_number n ok r = refl

one_more : (n : ℕ) (ok : Bool) (i : TypedItem) (r : Option (List TypedItem)) → check_after (n + 1) (ok && in_limits i) r ≡ check_after n ok (and_more (Some i) r)
unfolding check_after and_more all_in_limits
one_more n ok i None = refl
one_more n ok i (Some is) =
    let e : n + 1 + length is ≡ n + suc (length is) = omega arith in
    rw (e, and_assoc ok (in_limits i) (all_in_limits is))

module _ (r : Window) (n : ℕ) (ok : Bool) where
  rest : Option (List TypedItem)
  rest = items_from before.Item (parts (seen r))

  step_within : (b : Bool) → text_step_is (checked_step (cond b (Ok tt) (Err fault.OutsideLimits)) r n ok) ≡ check_after (n + 1) (ok && b) rest
  unfolding rest
  step_within true = rw (and-true ok)
  step_within false = rw (and-false ok)

  step_item : (o : Option TypedItem) → text_step_is (word_step (item_check o) r n ok) ≡ check_after n ok (and_more o rest)
  unfolding item_check rest
  step_item None = go (eqb n 1024)
    where
      go : (b : Bool) → text_step_is (cond b (Err fault.OutsideGrammar) (Err fault.OutsideGrammar)) ≡ check_after n ok (and_more None rest)
      go true = no_number n ok rest
      go false = no_number n ok rest
  step_item (Some i) = go (eqb n 1024) refl
    where
      full : n ≡ 1024 → (Err fault.OutsideGrammar) ≡ check_after n ok (and_more (Some i) rest)
      full e = over ok i rest ∙ ap (λ (k : ℕ). check_after k ok (and_more (Some i) rest)) (sym e)

      go : (b : Bool) → eqb n 1024 ≡ b
          → text_step_is (cond b (Err fault.OutsideGrammar) (checked_step (cond (in_limits i) (Ok tt) (Err fault.OutsideLimits)) r n ok))
          ≡ check_after n ok (and_more (Some i) rest)
      go true e = full (eqb-true n 1024 e)
      go false e = step_within (in_limits i) ∙ one_more n ok i rest

  pub step_word : (b : Before) (w : List ℕ) → text_step_is (word_step (item_check (item_of w)) r n ok) ≡ check_after n ok (items_from b (word_part w ∷ parts (seen r)))
  unfolding rest
  step_word b w = step_item (item_of w) ∙ ap (check_after n ok) (sym (item_more b w (parts (seen r))))

  pub word_within : (len : ℕ) (v : Result (Unit {0}) TextFault) → r.len < len → n ≤ 1024 → TextStepWithin len (word_step v r n ok)
  word_within len v f h = go (eqb n 1024) refl v
    where
      less : (eqb n 1024 ≡ false) → n + 1 ≤ 1024
      less e = below (eqb-false n 1024 e)
        where
          below : (n ≡ 1024 → ⊥) → n + 1 ≤ 1024
          below k = omega arith

      go : (b : Bool) → eqb n 1024 ≡ b → (v : Result (Unit {0}) TextFault) → TextStepWithin len (cond b (Err fault.OutsideGrammar) (checked_step v r n ok))
      go true e v = tt
      go false e (Ok tt) = (f, less e)
      go false e (Err fault.OutsideLimits) = (f, less e)
      go false e (Err fault.OutsideGrammar) = tt

-- ---- by what stands next: a step is right, and goes on with less of the text
module _ (s : List ℕ) (len : ℕ) (t : Option Token) (n : ℕ) (ok : Bool) (b : Before) (h : n ≤ 1024) (e : token_is t ≡ parts s) (w : TokenWithin len t) where
  pub goes_end : t ≡ None → end_check b ok ≡ check_from s b n ok
  goes_end f =
      let q = rw f at e in
      step_end_lem b n ok h ∙ ap (λ (ps : List Part). check_after n ok (items_from b ps)) q

  pub goes_comma : (r : Window) → t ≡ Some (token.Comma r) → (text_step_is (comma_step b r n ok) ≡ check_from s b n ok) × TextStepWithin len (comma_step b r n ok)
  goes_comma r f =
      let q = rw f at e in
      let v = rw f at w in
      (step_comma r n ok b ∙ ap (λ (ps : List Part). check_after n ok (items_from b ps)) q, comma_within r n ok len b v h)

  pub goes_word : (x r : Window) → t ≡ Some (token.Word x r) → (k : Result (Unit {0}) TextFault) → k ≡ item_check (item_of (seen x))
      → (text_step_is (word_step k r n ok) ≡ check_from s b n ok) × TextStepWithin len (word_step k r n ok)
  goes_word x r f k g =
      let q = rw f at e in
      let v = rw f at w in
      rw g (
        step_word r n ok b _ ∙ ap (λ (ps : List Part). check_after n ok (items_from b ps)) q,
        word_within r n ok len (item_check (item_of (seen x))) v h,
      )
