-- Every text of the production is read as the item that it says: a sign, digits, a point and an exponent each end where the next one begins. Assumes nothing.
use Rattle.std.specs.Prelude.{Some as some}
use Prim.Native.Nat.{ℕ}
use native.Mathlib.Omega.{arith}
use mathlib.Core.Path.{◌≡◌, refl, sym, ap, subst}
use mathlib.Core.Bool.{Bool, true, false, ◌||◌}
use mathlib.Core.List.{List, [], ◌∷◌, ◌++◌, append-nil}
use lib.ListN.{length}
use lib.Dec.{T, eqb, eqb→eq}
use lib.Ieee.Bits.{is_true}
use borrow.Author.Tests.{ne_eqb}
use Rattle.decimal.specs.Grammar.{TypedItem, is_digit, is_e, unsigned, negative, leading_digits, after_digits, power, scaled, plain, pointed, signed, item_of}
use Rattle.decimal.proofs.Counts.{digit_range}
use Rattle.number_grammar.specs.Production.{Digits, no_digits, more_digits, Some, some_digits, Sign, no_sign, plus, minus, Exponent, no_exponent, exponent, Number, without_point, with_point}

-- ---- a digit, a point and an e are no signs; a point and an e are no digits
record Bare (t : List ℕ) : Type 0 where
  same : unsigned t ≡ t
  clear : negative t ≡ false

bare_byte : (b : ℕ) (t : List ℕ) → (b ≡ 43 → ⊥) → (b ≡ 45 → ⊥) → Bare (b ∷ t)
unfolding unsigned negative
bare_byte b t p q = record { same = rw (ne_eqb b 43 p, ne_eqb b 45 q); clear = ne_eqb b 45 q }

bare_digit : (d : ℕ) (t : List ℕ) → T (is_digit d) → Bare (d ∷ t)
bare_digit d t h = let k = digit_range d h in bare_byte d t (λ e. omega arith) (λ e. omega arith)

bare_point : (t : List ℕ) → Bare (46 ∷ t)
bare_point t = bare_byte 46 t (λ e. omega arith) (λ e. omega arith)

bare_some : {ds : List ℕ} (t : List ℕ) → Some ds → Bare (ds ++ t)
bare_some t (some_digits {d} {ds} h r) = bare_digit d (ds ++ t) h

bare_digits : {ds : List ℕ} (t : List ℕ) → Digits ds → Bare t → Bare (ds ++ t)
bare_digits t no_digits b = b
bare_digits t (more_digits {d} {ds} h r) b = bare_digit d (ds ++ t) h

sign_off : {sg : List ℕ} {m : Bool} (t : List ℕ) → Sign sg m → Bare t → unsigned (sg ++ t) ≡ t
unfolding unsigned
sign_off t no_sign b = b.same
sign_off t plus b = refl
sign_off t minus b = refl

sign_is : {sg : List ℕ} {m : Bool} (t : List ℕ) → Sign sg m → Bare t → negative (sg ++ t) ≡ m
unfolding negative
sign_is t no_sign b = b.clear
sign_is t plus b = refl
sign_is t minus b = refl

-- ---- digits up to what is none
data Stop : List ℕ → Type 0 where
  at_the_end : Stop []
  at_byte : {b : ℕ} {t : List ℕ} → is_digit b ≡ false → Stop (b ∷ t)

point_stop : (t : List ℕ) → Stop (46 ∷ t)
unfolding is_digit
point_stop t = at_byte refl

e_no_digit : (e : ℕ) → T (is_e e) → is_digit e ≡ false
unfolding is_e is_digit
e_no_digit e h = go (eqb e 69) refl h
  where
    go : (b : Bool) → eqb e 69 ≡ b → T (b || eqb e 101) → is_digit e ≡ false
    go true p h = ap is_digit (eqb→eq e 69 (subst T (sym p) tt))
    go false p h = ap is_digit (eqb→eq e 101 h)

exponent_stop : {es xs : List ℕ} {l : Bool} → Exponent es l xs → Stop es
exponent_stop no_exponent = at_the_end
exponent_stop (exponent {e} h g r) = at_byte (e_no_digit e h)

none_here : {t : List ℕ} → Stop t → leading_digits t ≡ []
unfolding leading_digits
none_here at_the_end = refl
none_here (at_byte h) = rw h

all_here : {t : List ℕ} → Stop t → after_digits t ≡ t
unfolding after_digits
all_here at_the_end = refl
all_here (at_byte h) = rw h

digits_run : {ds : List ℕ} (t : List ℕ) → Digits ds → Stop t → leading_digits (ds ++ t) ≡ ds
unfolding leading_digits
digits_run t no_digits s = none_here s
digits_run t (more_digits {d} {ds} h r) s = rw (is_true (is_digit d) h) (ap (λ (l : List ℕ). d ∷ l) (digits_run t r s))

past_run : {ds : List ℕ} (t : List ℕ) → Digits ds → Stop t → after_digits (ds ++ t) ≡ t
unfolding after_digits
past_run t no_digits s = all_here s
past_run t (more_digits {d} {ds} h r) s = rw (is_true (is_digit d) h) (past_run t r s)

as_digits : {ds : List ℕ} → Some ds → Digits ds
as_digits (some_digits h r) = more_digits h r

-- ---- the parts
item : Bool → List ℕ → ℕ → Bool → List ℕ → TypedItem
item m ds k l xs = record { minus = m; digits = ds; decimals = k; exponent_minus = l; exponent = xs }

power_is : {xs : List ℕ} (m : Bool) (ds : List ℕ) (k : ℕ) (l : Bool) → Some xs → power m ds k l xs [] ≡ some (item m ds k l xs)
unfolding power item
power_is m ds k l (some_digits h r) = refl

scaled_is : {es xs : List ℕ} {l : Bool} (m : Bool) (ds : List ℕ) (k : ℕ) → Exponent es l xs → scaled m ds k es ≡ some (item m ds k l xs)
unfolding scaled item
scaled_is m ds k no_exponent = refl
scaled_is m ds k (exponent {e} {sign} {xs} {lower} h g r) =
    let b : Bare xs = subst Bare (append-nil xs) (bare_some [] r) in
    let d : leading_digits xs ≡ xs = subst (λ (t : List ℕ). leading_digits t ≡ xs) (append-nil xs) (digits_run [] (as_digits r) at_the_end) in
    let p : after_digits xs ≡ [] = subst (λ (t : List ℕ). after_digits t ≡ []) (append-nil xs) (past_run [] (as_digits r) at_the_end) in
    rw (is_true (is_e e) h, sign_is xs g b, sign_off xs g b, d, p) (power_is m ds k lower r)

plain_is : {ds es xs : List ℕ} {l : Bool} (m : Bool) → Some ds → Exponent es l xs → plain m ds es ≡ some (item m ds 0 l xs)
unfolding plain
plain_is m (some_digits {d} {ds} h r) x = scaled_is m (d ∷ ds) 0 x

pointed_is : {fs es xs : List ℕ} {l : Bool} (m : Bool) (ds : List ℕ) → Some fs → Exponent es l xs → pointed m ds fs es ≡ some (item m (ds ++ fs) (length fs) l xs)
unfolding pointed
pointed_is m fronts (some_digits {d} {ds} h r) x = scaled_is m (fronts ++ (d ∷ ds)) (length (d ∷ ds)) x

e_no_point : (e : ℕ) → T (is_e e) → eqb e 46 ≡ false
unfolding is_e
e_no_point e h = go (eqb e 69) refl h
  where
    go : (b : Bool) → eqb e 69 ≡ b → T (b || eqb e 101) → eqb e 46 ≡ false
    go true p h = let q = eqb→eq e 69 (subst T (sym p) tt) in ne_eqb e 46 (λ z. omega arith)
    go false p h = let q = eqb→eq e 101 h in ne_eqb e 46 (λ z. omega arith)

signed_is : {ds es xs : List ℕ} {l : Bool} (m : Bool) → Some ds → Exponent es l xs → signed m ds es ≡ some (item m ds 0 l xs)
unfolding signed
signed_is m r no_exponent = plain_is m r no_exponent
signed_is m r (exponent {e} h g x) = rw (e_no_point e h) (plain_is m r (exponent h g x))

-- ---- the number
pub item_complete : {w : List ℕ} {i : TypedItem} → Number w i → item_of w ≡ some i
unfolding item_of signed item
item_complete (without_point {sign} {ds} {es} {xs} {m} {l} g r x) =
    let b = bare_some es r in
    let s = exponent_stop x in
    rw (sign_is (ds ++ es) g b, sign_off (ds ++ es) g b, digits_run es (as_digits r) s, past_run es (as_digits r) s) (signed_is m r x)
item_complete (with_point {sign} {ds} {fs} {es} {xs} {m} {l} g r f x) =
    let t : List ℕ = 46 ∷ (fs ++ es) in
    let b = bare_digits t r (bare_point (fs ++ es)) in
    let s = exponent_stop x in
    rw (
      sign_is (ds ++ t) g b,
      sign_off (ds ++ t) g b,
      digits_run t r (point_stop (fs ++ es)),
      past_run t r (point_stop (fs ++ es)),
      digits_run es (as_digits f) s,
      past_run es (as_digits f) s,
    )
    (pointed_is m ds f x)
