-- What holds of each value of a table of keywords and of the default holds of the one that is read. Assumes nothing.
use Rattle.std.specs.Prelude.{Option}
use Prim.Native.Nat.{ℕ}
use mathlib.Core.List.{List, [], ◌∷◌}
use Rattle.num.proofs.Each.{choose}
use Rattle.fe.specs.Attributes.{is_word}
use Rattle.fe.specs.Keywords.{Keyword, keyword}

module _ {A : Type 0} (P : A → Type 0) where
  abbrev pub Values : List (Keyword A) → Type 0
  Values [] = Unit {0}
  Values (k ∷ ks) = P k.1 × Values ks

  pub keyword_holds : (ks : List (Keyword A)) (default : A) (t : Option (List ℕ)) → Values ks → P default → P (keyword ks default t)
  unfolding keyword
  keyword_holds [] default t h d = d
  keyword_holds (k ∷ ks) default t h d = choose P (is_word t k.0) k.1 (keyword ks default t) h.0 (keyword_holds ks default t h.1 d)
