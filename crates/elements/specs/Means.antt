-- What an element's answer stands for over the sheet's bytes. Definitions only.
use Rattle.std.specs.Prelude.{ℕ, ◌≤◌, ◌≡◌, List, Option, Some, None, Result, Ok, Err}
use Rattle.answer.specs.declared.Refusal.{Refusal}
use Rattle.child.specs.declared.Kind.{Kind}
use Rattle.child.specs.Means.{kind_is}
use Rattle.child.specs.Merges.{merge_end}
use Rattle.elements.specs.Elements as element

-- a kind, none where no primitive is made of the tag, or a refusal
abbrev pub made_is : List ℕ → Result (Option Kind) Refusal → element.ElementKind
made_is s (Ok (Some k)) = element.made (kind_is s k)
made_is s (Ok None) = element.no_primitive
made_is s (Err why) = element.refused why

-- the node after the last that a kind reads its inputs from
abbrev pub made_end : Result (Option Kind) Refusal → ℕ
made_end (Ok (Some k)) = merge_end k
made_end (Ok None) = 0
made_end (Err why) = 0

-- what is said of an element's answer r: it stands for m, and the nodes that its kind reads inputs from are before node `bound`
pub record Makes (s : List ℕ) (r : Result (Option Kind) Refusal) (m : element.ElementKind) (bound : ℕ) : Type 0 where
  pub exact : made_is s r ≡ m
  pub within : made_end r ≤ bound
