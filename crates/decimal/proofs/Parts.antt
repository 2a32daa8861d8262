-- The parts of an item's word, one after the other: what the code reads of each, and what the grammar says of it. Assumes nothing.
use Rattle.std.specs.Prelude.{None}
use Prim.Native.Nat.{ℕ, ◌+◌, ◌-◌, ◌*◌, ◌<◌, min}
use native.Mathlib.Nat.{suc-ne-zero, lt_irrefl}
use native.Mathlib.Omega.{arith}
use mathlib.Core.Path.{◌≡◌, refl, sym, ap, ◌∙◌}
use mathlib.Core.Bool.{Bool, true, false}
use mathlib.Core.List.{List, [], ◌∷◌, ◌++◌}
use lib.ListN.{length, drop}
use Rattle.decimal.specs.Grammar.{unsigned, negative, leading_digits, after_digits, scaled, plain, pointed, signed, item_of}
use Rattle.decimal.specs.Limits.{whole, whole_from}
use Rattle.decimal.specs.Means.{limit, held_in, DigitsOf}
use Rattle.decimal.specs.Windows.{starts_with}
use Rattle.decimal.proofs.Running.{held_on}

-- digits after digits
whole_append : (w : ℕ) (ds es : List ℕ) → whole_from w (ds ++ es) ≡ whole_from (whole_from w ds) es
unfolding whole_from
whole_append w [] es = refl
whole_append w (d ∷ ds) es = whole_append (w * 10 + (d - 48)) ds es

whole_on : (v : ℕ) (ds es : List ℕ) → v ≡ min (whole ds) limit → min (whole_from v es) limit ≡ min (whole (ds ++ es)) limit
whole_on v ds es e =
    ap (λ (k : ℕ). min (whole_from k es) limit) e ∙ sym (held_on (whole ds) es) ∙ ap (λ (k : ℕ). min k limit) (sym (whole_append 0 ds es))

module _ (m : Bool) (ds : List ℕ) where
  pointed_none : (fs rest : List ℕ) → length fs ≡ 0 → pointed m ds fs rest ≡ None
  unfolding pointed
  pointed_none [] rest e = refl
  pointed_none (f ∷ fs) rest e = absurd (suc-ne-zero (length fs) e)

  pointed_some : (fs rest : List ℕ) → 0 < length fs → pointed m ds fs rest ≡ scaled m (ds ++ fs) (length fs) rest
  unfolding pointed
  pointed_some [] rest h = absurd (lt_irrefl 0 h)
  pointed_some (f ∷ fs) rest h = refl

  signed_plain : (t : List ℕ) → starts_with 46 t ≡ false → signed m ds t ≡ plain m ds t
  unfolding starts_with signed
  signed_plain [] e = refl
  signed_plain (b ∷ t) e = rw e

plain_none : (m : Bool) (ds rest : List ℕ) → length ds ≡ 0 → plain m ds rest ≡ None
unfolding plain
plain_none m [] rest e = refl
plain_none m (d ∷ ds) rest e = absurd (suc-ne-zero (length ds) e)

plain_some : (m : Bool) (ds rest : List ℕ) → 0 < length ds → plain m ds rest ≡ scaled m ds 0 rest
unfolding plain
plain_some m [] rest h = absurd (lt_irrefl 0 h)
plain_some m (d ∷ ds) rest h = refl

module _ (m : Bool) (ds t : List ℕ) where
  module _ (v n x : ℕ) (d : DigitsOf t v n x) where
    pub decimals_none : n ≡ 0 → None ≡ held_in (pointed m ds (leading_digits t) (after_digits t))
    decimals_none z = rw (pointed_none m ds (leading_digits t) (after_digits t) (d.many ∙ z))

    pub decimals_value : v ≡ min (whole ds) limit → x ≡ min (whole (ds ++ leading_digits t)) limit
    decimals_value e = d.number ∙ whole_on v ds (leading_digits t) e

    pub decimals_some : 0 < n → scaled m (ds ++ leading_digits t) n (drop n t) ≡ pointed m ds (leading_digits t) (after_digits t)
    decimals_some h =
        let p : 0 < length (leading_digits t) = omega (arith, d.many) in
        ap (λ (r : List ℕ). scaled m (ds ++ leading_digits t) n r) (sym d.next)
        ∙ ap (λ (k : ℕ). scaled m (ds ++ leading_digits t) k (after_digits t)) (sym d.many)
        ∙ sym (pointed_some m ds (leading_digits t) (after_digits t) p)

  pub after_none : starts_with 46 t ≡ false → length ds ≡ 0 → None ≡ held_in (signed m ds t)
  after_none e z = rw (signed_plain m ds t e, plain_none m ds t z)

  pub after_plain : starts_with 46 t ≡ false → 0 < length ds → scaled m ds 0 t ≡ signed m ds t
  after_plain e z = rw (signed_plain m ds t e, plain_some m ds t z)

-- a point stands first
pub after_point : (m : Bool) (ds t : List ℕ) → starts_with 46 t ≡ true → pointed m ds (leading_digits (drop 1 t)) (after_digits (drop 1 t)) ≡ signed m ds t
unfolding starts_with signed
after_point m ds [] e = cc
after_point m ds (b ∷ t) e = rw e

-- the whole word
pub word_is : (t : List ℕ) (v n x : ℕ) (m : Bool) → m ≡ negative t → DigitsOf (unsigned t) v n x → signed m (leading_digits (unsigned t)) (drop n (unsigned t)) ≡ item_of t
unfolding item_of
word_is t v n x m e d = rw (e, d.next)
