-- What the code's answers stand for over the sheet's bytes. Definitions only.
use Rattle.std.specs.Prelude.{ℕ, ◌+◌, ◌-◌, ◌≤◌, ◌<◌, ◌≡◌, true, T, List, [], Option, Some, None, Result, Ok, Err}
use Rattle.svgtree.specs.Parse.{count_of, node_at, nodes_from}
use Rattle.svgtree.specs.Means.{nodes_after}
use Rattle.child.specs.Means.{child_is}
use Rattle.region.specs.declared.Frame.{Frame}
use Rattle.chain.specs.Chain as chain
use Rattle.chain.specs.Chain.{Chain, kept, keep_first, step_of}
use Rattle.chain.specs.declared.Step.{Step}
use Rattle.chain.specs.declared.Step.TheVariants as step
use Rattle.answer.specs.declared.Refusal.{Refusal}
use Rattle.child.specs.declared.Child.{Child}

-- an error is a node that refuses the sheet
abbrev pub step_is : List ℕ → Result Step Refusal → chain.Step
step_is s (Ok step.Pass) = chain.pass
step_is s (Ok step.End) = chain.end
step_is s (Ok (step.Count c)) = chain.count (child_is s c)
step_is s (Err why) = chain.refused why

-- node i, with the nodes after it
abbrev pub step_at : Frame → List ℕ → ℕ → chain.Step
step_at frame s i = step_of frame (node_at s i) (nodes_after s i)

-- the chain from node i on
abbrev pub chain_from : Frame → List ℕ → ℕ → Chain
chain_from frame s i = chain.chain frame (nodes_from s i (count_of s - i))

-- the next child with its node's number, none where the chain ends, or a refusal
abbrev pub Next : Type 0
Next = Result (Option (ℕ × Child)) Refusal

-- how the chain goes on from the next child
abbrev pub next_is : Frame → List ℕ → Next → Chain
next_is frame s (Ok None) = kept []
next_is frame s (Err why) = chain.refused why
next_is frame s (Ok (Some (j, c))) = keep_first (child_is s c) (chain_from frame s (j + 1))

-- the next child is that of its node, which is not before `start`
abbrev pub NextAt : Frame → List ℕ → ℕ → Next → Type 0
NextAt frame s start (Ok None) = T true
NextAt frame s start (Err why) = T true
NextAt frame s start (Ok (Some (j, c))) = (start ≤ j) × (j < count_of s) × (step_at frame s j ≡ chain.count (child_is s c))

-- what is said of the next child from node `start` on
pub record NextChild (frame : Frame) (s : List ℕ) (start : ℕ) (r : Next) : Type 0 where
  pub exact : chain_from frame s start ≡ next_is frame s r
  pub here : NextAt frame s start r
