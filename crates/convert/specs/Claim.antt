-- Demand 3 of a list that is given, for a frame and nodes that need not be of one sheet. Definitions only.
use Rattle.std.specs.Prelude.{ℕ, ◌≡◌, List, ◌++◌, length, drop}
use Rattle.svgtree.specs.Values.{Node}
use Rattle.region.specs.declared.Frame.{Frame}
use Rattle.child.specs.Child.{Child}
use Rattle.chain.specs.Chain.{kept}
use Rattle.list_primitives.specs.Primitives.{primitives}
use Rattle.ranges.specs.Numbers.{Sound}
use Rattle.list_within.specs.Renders.{Renders}
use Rattle.convert.specs.Children.{collected, list_of}

-- The children are those that count (`counted`); the output, which was o, begins with the list of one record for each, in order, each as demand 2 has it
-- (`listed`). A reader of the output's first n bytes finds these records: for every input, its lookup among the records before gives what the rule gives
-- among the children before, no number is NaN, and each named number is in its range (`renders`); `sound` says the last two of the primitives
pub record Claim (frame : Frame) (nodes : List Node) (o : List ℕ) (n : ℕ) (o' : List ℕ) : Type 0 where
  pub children : List Child
  pub counted : collected frame nodes ≡ kept children
  pub listed : o' ≡ list_of children ++ drop (length (list_of children)) o
  pub renders : Renders o' n children
  pub sound : Sound (primitives children)
