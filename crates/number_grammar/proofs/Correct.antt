-- What is read as an item is a text of the production that says this item: each part that is read is one of the production, and together they are the text.
-- Assumes nothing.
use Rattle.std.specs.Prelude.{None as none, Some as some}
use Prim.Native.Nat.{ℕ}
use mathlib.Core.Path.{◌≡◌, refl, sym, ap, ◌∙◌, subst}
use mathlib.Core.Bool.{Bool, true, false, cond}
use mathlib.Core.List.{List, [], ◌∷◌, ◌++◌, append-nil}
use lib.ListN.{length}
use lib.Dec.{T, eqb}
use borrow.Author.Tests.{eqb-true}
use Rattle.decimal.specs.Grammar.{TypedItem, is_digit, is_e, unsigned, negative, leading_digits, after_digits, power, scaled, plain, pointed, signed, item_of}
use Rattle.number_grammar.specs.Production.{Digits, no_digits, more_digits, Some, some_digits, Sign, no_sign, plus, minus, Exponent, no_exponent, exponent, Number, without_point, with_point}

-- ---- a text is its sign and what follows it, and its digits and what follows them
record Signed (t : List ℕ) : Type 0 where
  front : List ℕ
  sign : Sign front (negative t)
  whole : t ≡ front ++ unsigned t

split_sign : (t : List ℕ) → Signed t
unfolding negative unsigned
split_sign [] = record { front = []; sign = no_sign; whole = refl }
split_sign (b ∷ t) = go (eqb b 43) refl (eqb b 45) refl
  where
    go : (p : Bool) → eqb b 43 ≡ p → (q : Bool) → eqb b 45 ≡ q → Signed (b ∷ t)
    go true p q f = subst (λ (x : ℕ). Signed (x ∷ t)) (sym (eqb-true b 43 p)) (record { front = 43 ∷ []; sign = plus; whole = refl })
    go false p true f = subst (λ (x : ℕ). Signed (x ∷ t)) (sym (eqb-true b 45 f)) (record { front = 45 ∷ []; sign = minus; whole = refl })
    go false p false f = record { front = []; sign = subst (Sign []) (sym f) no_sign; whole = rw (p, f) }

digits_all : (t : List ℕ) → Digits (leading_digits t)
unfolding leading_digits
digits_all [] = no_digits
digits_all (b ∷ t) = go (is_digit b) refl (digits_all t)
  where
    go : (q : Bool) → is_digit b ≡ q → Digits (leading_digits t) → Digits (cond q (b ∷ leading_digits t) [])
    go true e r = more_digits (subst T (sym e) tt) r
    go false e r = no_digits

split_digits : (t : List ℕ) → t ≡ leading_digits t ++ after_digits t
unfolding leading_digits after_digits
split_digits [] = refl
split_digits (b ∷ t) = go (is_digit b) (split_digits t)
  where
    go : (q : Bool) → t ≡ leading_digits t ++ after_digits t → b ∷ t ≡ cond q (b ∷ leading_digits t) [] ++ cond q (after_digits t) (b ∷ t)
    go true e = ap (λ (l : List ℕ). b ∷ l) e
    go false e = refl

some_all : (d : ℕ) (ds : List ℕ) → Digits (d ∷ ds) → Some (d ∷ ds)
some_all d ds (more_digits h r) = some_digits h r

-- ---- the exponent
record Scaled (m : Bool) (ds : List ℕ) (k : ℕ) (es : List ℕ) (i : TypedItem) : Type 0 where
  lower : Bool
  power : List ℕ
  given : Exponent es lower power
  is : i ≡ record { minus = m; digits = ds; decimals = k; exponent_minus = lower; exponent = power }

power_of : (m : Bool) (ds : List ℕ) (k e : ℕ) (t : List ℕ) (i : TypedItem) → T (is_e e) → (xs rest : List ℕ) → leading_digits (unsigned t) ≡ xs → after_digits (unsigned t) ≡ rest
    → power m ds k (negative t) xs rest ≡ some i → Scaled m ds k (e ∷ t) i
unfolding power
power_of m ds k e t i h [] rest p q f = cc
power_of m ds k e t i h (x ∷ xs) (b ∷ r) p q f = cc
power_of m ds k e t i h (x ∷ xs) [] p q f =
    let g = split_sign t in
    let u : unsigned t ≡ x ∷ xs = split_digits (unsigned t) ∙ ap (λ (l : List ℕ). l ++ after_digits (unsigned t)) p ∙ ap (λ (l : List ℕ). (x ∷ xs) ++ l) q ∙ append-nil (x ∷ xs) in
    let s : Some (x ∷ xs) = some_all x xs (subst Digits p (digits_all (unsigned t))) in
    let w : t ≡ g.front ++ (x ∷ xs) = g.whole ∙ ap (λ (l : List ℕ). g.front ++ l) u in
    record {
      lower = negative t;
      power = x ∷ xs;
      given = subst (λ (l : List ℕ). Exponent (e ∷ l) (negative t) (x ∷ xs)) (sym w) (exponent h g.sign s);
      is = cc;
    }

scaled_of : (m : Bool) (ds : List ℕ) (k : ℕ) (es : List ℕ) (i : TypedItem) → scaled m ds k es ≡ some i → Scaled m ds k es i
unfolding scaled
scaled_of m ds k [] i f = record { lower = false; power = []; given = no_exponent; is = cc }
scaled_of m ds k (e ∷ t) i f = go (is_e e) refl f
  where
    go : (q : Bool) → is_e e ≡ q → cond q (power m ds k (negative t) (leading_digits (unsigned t)) (after_digits (unsigned t))) none ≡ some i → Scaled m ds k (e ∷ t) i
    go true p f = power_of m ds k e t i (subst T (sym p) tt) (leading_digits (unsigned t)) (after_digits (unsigned t)) refl refl f
    go false p f = cc

-- ---- the number
plain_of : (sg : List ℕ) (m : Bool) (ds es : List ℕ) (i : TypedItem) → Sign sg m → Digits ds → plain m ds es ≡ some i → Number (sg ++ (ds ++ es)) i
unfolding plain
plain_of sg m [] es i g r f = cc
plain_of sg m (d ∷ ds) es i g r f =
    let x = scaled_of m (d ∷ ds) 0 es i f in
    subst (Number (sg ++ ((d ∷ ds) ++ es))) (sym x.is) (without_point g (some_all d ds r) x.given)

pointed_of : (sg : List ℕ) (m : Bool) (ds fs es : List ℕ) (i : TypedItem) → Sign sg m → Digits ds → Digits fs → pointed m ds fs es ≡ some i
    → Number (sg ++ (ds ++ (46 ∷ (fs ++ es)))) i
unfolding pointed
pointed_of sg m ds [] es i g r q f = cc
pointed_of sg m ds (d ∷ fs) es i g r q f =
    let x = scaled_of m (ds ++ (d ∷ fs)) (length (d ∷ fs)) es i f in
    subst (Number (sg ++ (ds ++ (46 ∷ ((d ∷ fs) ++ es))))) (sym x.is) (with_point g r (some_all d fs q) x.given)

signed_of : (sg : List ℕ) (m : Bool) (ds es : List ℕ) (i : TypedItem) → Sign sg m → Digits ds → signed m ds es ≡ some i → Number (sg ++ (ds ++ es)) i
unfolding signed
signed_of sg m ds [] i g r f = plain_of sg m ds [] i g r f
signed_of sg m ds (b ∷ t) i g r f = go (eqb b 46) refl f
  where
    point : b ≡ 46 → pointed m ds (leading_digits t) (after_digits t) ≡ some i → Number (sg ++ (ds ++ (b ∷ t))) i
    point e f =
        subst (λ (x : ℕ). Number (sg ++ (ds ++ (x ∷ t))) i) (sym e)
        (subst (λ (l : List ℕ). Number (sg ++ (ds ++ (46 ∷ l))) i) (sym (split_digits t)) (pointed_of sg m ds (leading_digits t) (after_digits t) i g r (digits_all t) f))

    go : (q : Bool) → eqb b 46 ≡ q → cond q (pointed m ds (leading_digits t) (after_digits t)) (plain m ds (b ∷ t)) ≡ some i → Number (sg ++ (ds ++ (b ∷ t))) i
    go true e f = point (eqb-true b 46 e) f
    go false e f = plain_of sg m ds (b ∷ t) i g r f

pub item_correct : (w : List ℕ) (i : TypedItem) → item_of w ≡ some i → Number w i
unfolding item_of
item_correct w i f =
    let g = split_sign w in
    let n = signed_of g.front (negative w) (leading_digits (unsigned w)) (after_digits (unsigned w)) i g.sign (digits_all (unsigned w)) f in
    subst (λ (l : List ℕ). Number l i) (sym (g.whole ∙ ap (λ (l : List ℕ). g.front ++ l) (split_digits (unsigned w)))) n
