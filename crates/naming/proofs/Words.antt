-- Laws on `same`: it says false of unlike texts, holds either way round, and goes part by part. Assumes nothing.
use mathlib.Core.Path.{◌≡◌, refl, sym}
use mathlib.Core.Bool.{Bool, true, false, ◌&&◌}
use mathlib.Core.List.{[], ◌∷◌, ◌++◌}
use native.Mathlib.Omega.{arith}
use lib.Dec.{eqb}
use lib.ListN.{length}
use Rattle.std.proofs.Math.Bool.{and_assoc}
use Rattle.std.proofs.lemmas.Bool.{both_ways}
use Rattle.bits.specs.Bytes.{same}
use Rattle.bits.proofs.Sameness.{same_refl, same_eq}
use Rattle.tree.specs.Input.{Name}

pub same_ne : (s t : Name) → (s ≡ t → ⊥) → same s t ≡ false
same_ne s t h = go (same s t) refl
  where
    go : (b : Bool) → same s t ≡ b → same s t ≡ false
    go true e = absurd (h (same_eq s t e))
    go false e = e

pub same_comm : (a b : Name) → same a b ≡ same b a
same_comm a b = go (same a b) refl
  where
    go : (x : Bool) → same a b ≡ x → x ≡ same b a
    go true e = rw (same_eq a b e) (sym (same_refl b))
    go false e = sym (same_ne b a (λ q. both_ways (same a b) e (rw q (same_refl a))))

pub same_append : (a c b d : Name) → length a ≡ length c → same (a ++ b) (c ++ d) ≡ (same a c && same b d)
unfolding same
same_append [] [] b d e = refl
same_append [] (y ∷ ys) b d e = absurd (omega arith)
same_append (x ∷ xs) [] b d e = absurd (omega arith)
same_append (x ∷ xs) (y ∷ ys) b d e = rw (same_append xs ys b d (omega arith)) (sym (and_assoc (eqb x y) (same xs ys) (same b d)))
