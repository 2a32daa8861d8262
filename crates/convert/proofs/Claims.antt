-- What comes of nodes in a frame, by the chain; and the claim that a list hands over, where the frame is sound and the nodes are accepted. Assumes nothing.
use mathlib.Core.Path.{◌≡◌, refl, sym, ap, ◌∙◌, subst}
use mathlib.Core.Bool.{Bool, true, false, cond}
use mathlib.Core.List.{List, [], ◌∷◌}
use Prim.Native.Nat.{ℕ}
use lib.ListN.{length, drop}
use lib.Dec.{leb}
use Rattle.answer.specs.Outcomes.{Outcome, refused, given, in_room, outcome_number, outcome_length, outcome_output, Answers}
use Rattle.answer.specs.declared.Answer.{Answer}
use Rattle.answer.specs.declared.Refusal.TheVariants.{NoPrimitive, ShortOutput}
use Rattle.answer.proofs.Laws.{never_zero}
use Rattle.svgtree.specs.Values.{Node}
use Rattle.sheet_accepted.specs.Nodes.{AcceptedNodes}
use Rattle.region.specs.declared.Frame.{Frame}
use Rattle.region.proofs.Regions.{SoundFrame}
use Rattle.child.specs.Child.{Child}
use Rattle.chain.specs.Chain as chain
use Rattle.chain.specs.Chain.{Chain, kept}
use Rattle.list_primitives.specs.Primitives.{primitives}
use Rattle.ranges.specs.Numbers.{Sound}
use Rattle.ranges.proofs.Sound.{sound_none, sound}
use Rattle.list_within.specs.Lists.{ListWithin}
use Rattle.list_within.proofs.ListsFit.{within_none, within}
use Rattle.list_within.proofs.Rendering.{renders}
use Rattle.convert.specs.Children.{placeable, collected, list_of, fit, of_chain, children_outcome}
use Rattle.convert.specs.Claim.{Claim}

kept_same : (cs ds : List Child) → kept cs ≡ kept ds → cs ≡ ds
kept_same cs ds e = cc

module _ (frame : Frame) (nodes : List Node) where
  pub none_placed : (room : ℕ) → placeable frame.units frame.bbox ≡ false → children_outcome frame nodes room ≡ refused NoPrimitive
  unfolding collected fit
  none_placed room e = rw e refl

  pub by_chain : (room : ℕ) (c : Chain) → placeable frame.units frame.bbox ≡ true → chain.chain frame nodes ≡ c
      → children_outcome frame nodes room ≡ of_chain room c
  unfolding collected
  by_chain room c e q = rw e (ap (of_chain room) q)

  -- where a frame cannot place a primitive, no child counts; else what holds of the chain's children holds of those that count
  of_collected : (P : List Child → Type 0) → P [] → ((cs : List Child) → chain.chain frame nodes ≡ kept cs → P cs)
      → (cs : List Child) → collected frame nodes ≡ kept cs → P cs
  unfolding collected
  of_collected P none some cs c = go (placeable frame.units frame.bbox) c
    where
      go : (b : Bool) → cond b (chain.chain frame nodes) (kept []) ≡ kept cs → P cs
      go true c = some cs c
      go false c = subst P (kept_same [] cs c) none

-- a number 0 comes with a list: what it is the list of

record Listed (c : Chain) (room : ℕ) : Type 0 where
  children : List Child
  counted : c ≡ kept children
  fits : of_chain room c ≡ given children

listed : (room : ℕ) (cs : List Child) → outcome_number (fit room cs) ≡ 0 → fit room cs ≡ given cs
unfolding fit in_room
listed room [] z = absurd (never_zero NoPrimitive z)
listed room (c ∷ cs) z = go (leb (length (list_of (c ∷ cs))) room) z
  where
    go : (b : Bool) → outcome_number (cond b (given (c ∷ cs)) (refused ShortOutput)) ≡ 0 → cond b (given (c ∷ cs)) (refused ShortOutput) ≡ given (c ∷ cs)
    go true z = refl
    go false z = absurd (never_zero ShortOutput z)

chain_listed : (room : ℕ) (c : Chain) → outcome_number (of_chain room c) ≡ 0 → Listed c room
chain_listed room (chain.refused why) z = absurd (never_zero why z)
chain_listed room (kept cs) z = record { children = cs; counted = refl; fits = listed room cs z }

-- the claim
module _ (frame : Frame) (nodes : List Node) (framed : SoundFrame frame) (accepted : AcceptedNodes nodes) where
  pub claimed : (o : List ℕ) (r : Answer) (o' : List ℕ) → Answers list_of (children_outcome frame nodes (length o)) o r o' → r.number ≡ 0
      → Claim frame nodes o r.length o'
  claimed o r o' a z =
      let x = chain_listed (length o) (collected frame nodes) (sym a.number ∙ z) in
      let cs = x.children in
      let output : o' ≡ outcome_output list_of (given cs) o = a.output ∙ ap (λ (y : Outcome (List Child)). outcome_output list_of y o) x.fits in
      let long : r.length ≡ outcome_length list_of (given cs) = a.length ∙ ap (outcome_length list_of) x.fits in
      let numbers : Sound (primitives cs) = of_collected frame nodes (λ (l : List Child). Sound (primitives l)) sound_none (sound frame nodes framed accepted) cs x.counted in
      let layout : ListWithin (primitives cs) = of_collected frame nodes (λ (l : List Child). ListWithin (primitives l)) within_none (within frame nodes framed accepted) cs x.counted in
      record {
        children = cs;
        counted = x.counted;
        listed = output;
        renders = renders cs o' (drop (length (list_of cs)) o) output layout r.length long numbers;
        sound = numbers;
      }
