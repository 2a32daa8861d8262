-- What is read is what was written: numbers, runs of bytes, texts, inputs. Assumes nothing.
use Prim.Native.Nat.{ℕ, zero, suc, ◌+◌, ◌*◌, ◌/◌, ◌%◌, ◌<◌, ◌≤◌}
use native.Mathlib.Nat.{div-div-eq-div-mul, add-mul-mod_self_right, mod-eq_of_lt, div-eq_of_lt-le}
use native.Mathlib.Omega.{arith}
use mathlib.Core.Path.{◌≡◌, refl, sym, ap, ◌∙◌, subst}
use mathlib.Core.List.{List, [], ◌∷◌, ◌++◌, append_assoc}
use mathlib.Core.Bool.{Bool, true, false}
use borrow.Author.Tests.{ltb-true, leb-true}
use lib.Dec.{leb, ltb}
use lib.ListN.{length}
use Rattle.bits.specs.Bytes.{bytes16, bytes32}
use Rattle.bits.specs.Utf8.{utf8}
use Rattle.list_read.specs.Read.{Got, outside, got, and_then, only_if, read_byte, read_below, read16, read32, read_many, read_text}
use Rattle.tree.specs.Input.{text_bytes}

-- what holds of what is read, if anything is
abbrev pub Holds : {A : Type 0} → (A → List ℕ → Type 0) → Got A → Type 0
Holds P outside = Unit {0}
Holds P (got a r) = P a r

pub holds_then : {A B : Type 0} (P : A → List ℕ → Type 0) (Q : B → List ℕ → Type 0) (g : Got A) (f : A → List ℕ → Got B) → Holds P g → ((a : A) (r : List ℕ) → P a r → Holds Q (f a r)) → Holds Q (and_then g f)
holds_then P Q outside f h k = tt
holds_then P Q (got a r) f h k = k a r h

pub holds_only_if : {A : Type 0} (P : A → List ℕ → Type 0) (b : Bool) (g : Got A) → (b ≡ true → Holds P g) → Holds P (only_if b g)
holds_only_if P true g h = h refl
holds_only_if P false g h = tt

-- each is a byte
unfoldable pub AllBytes : List ℕ → Type 0
AllBytes [] = Unit {0}
AllBytes (x ∷ xs) = (x < 256) × AllBytes xs

-- bytes that begin with some bytes
pub record Front (xs ys r : List ℕ) : Type 0 where
  pub split : xs ≡ ys ++ r
  pub rest : AllBytes r

pub byte_forth : (xs : List ℕ) → AllBytes xs → Holds (λ b r. (b < 256) × Front xs (b ∷ []) r) (read_byte xs)
unfolding AllBytes
byte_forth [] h = tt
byte_forth (x ∷ xs) h = (h.0, record { split = refl; rest = h.1 })

pub below_forth : (n : ℕ) (xs : List ℕ) → AllBytes xs → Holds (λ b r. (b < n) × Front xs (b ∷ []) r) (read_below n xs)
unfolding read_below AllBytes
below_forth n [] h = tt
below_forth n (x ∷ xs) h = holds_only_if _ (ltb x n) _ (λ e. (ltb-true x n e, record { split = refl; rest = h.1 }))

-- the lowest byte, and what is above it
low : (a y : ℕ) → a < 256 → ((a + y * 256) % 256 ≡ a) × ((a + y * 256) / 256 ≡ y)
low a y h = (add-mul-mod_self_right a y 256 ∙ mod-eq_of_lt h, div-eq_of_lt-le 256 (omega arith) (omega arith))

bytes16_of : (a b : ℕ) → a < 256 → b < 256 → (bytes16 (a + b * 256) ≡ a ∷ b ∷ []) × (a + b * 256 < 65536)
unfolding bytes16
bytes16_of a b h k = (rw ((low a b h).0, (low a b h).1, mod-eq_of_lt k), omega arith)

pub read16_forth : (xs : List ℕ) → AllBytes xs → Holds (λ n r. (n < 65536) × Front xs (bytes16 n) r) (read16 xs)
unfolding read16 AllBytes
read16_forth [] h = tt
read16_forth (a ∷ []) h = tt
read16_forth (a ∷ b ∷ r) h =
    let z = bytes16_of a b h.0 h.1.0 in
    (z.1, record { split = ap (λ (l : List ℕ). l ++ r) (sym z.0); rest = h.1.1 })

bytes32_of : (a b c d : ℕ) → a < 256 → b < 256 → c < 256 → d < 256 → (bytes32 (a + b * 256 + c * 65536 + d * 16777216) ≡ a ∷ b ∷ c ∷ d ∷ []) × (a + b * 256 + c * 65536 + d * 16777216 < 4294967296)
unfolding bytes32
bytes32_of a b c d h k l m =
    let n : ℕ = a + (b + (c + d * 256) * 256) * 256 in
    let e : a + b * 256 + c * 65536 + d * 16777216 ≡ a + (b + (c + d * 256) * 256) * 256 = omega arith in
    let d₁ : n / 256 ≡ b + (c + d * 256) * 256 = (low a (b + (c + d * 256) * 256) h).1 in
    let d₂ : n / 65536 ≡ c + d * 256 = sym (div-div-eq-div-mul n 256 256) ∙ ap (λ (x : ℕ). x / 256) d₁ ∙ (low b (c + d * 256) k).1 in
    let d₃ : n / 16777216 ≡ d = sym (div-div-eq-div-mul n 65536 256) ∙ ap (λ (x : ℕ). x / 256) d₂ ∙ (low c d l).1 in
    (rw (e, (low a (b + (c + d * 256) * 256) h).0, d₁, d₂, d₃, (low b (c + d * 256) k).0, (low c d l).0, mod-eq_of_lt m), omega arith)

pub read32_forth : (xs : List ℕ) → AllBytes xs → Holds (λ n r. (n < 4294967296) × Front xs (bytes32 n) r) (read32 xs)
unfolding read32 AllBytes
read32_forth [] h = tt
read32_forth (a ∷ []) h = tt
read32_forth (a ∷ b ∷ []) h = tt
read32_forth (a ∷ b ∷ c ∷ []) h = tt
read32_forth (a ∷ b ∷ c ∷ d ∷ r) h =
    let z = bytes32_of a b c d h.0 h.1.0 h.1.1.0 h.1.1.1.0 in
    (z.1, record { split = ap (λ (l : List ℕ). l ++ r) (sym z.0); rest = h.1.1.1.1 })

-- a front, and then another one
pub fronts : {xs ys r zs r' : List ℕ} → Front xs ys r → Front r zs r' → Front xs (ys ++ zs) r'
fronts {xs} {ys} {r} {zs} {r'} p q = record { split = p.split ∙ ap (λ (l : List ℕ). ys ++ l) q.split ∙ sym (append_assoc ys zs r'); rest = q.rest }

pub run_forth : (n : ℕ) (xs : List ℕ) → AllBytes xs → Holds (λ ys r. (length ys ≡ n) × AllBytes ys × Front xs ys r) (read_many read_byte n xs)
unfolding read_many AllBytes
run_forth zero xs h = (refl, tt, record { split = refl; rest = h })
run_forth (suc n) [] h = tt
run_forth (suc n) (x ∷ xs) h =
    holds_then _ _ (read_many read_byte n xs) _ (run_forth n xs h.1)
    (λ ys r p. (ap suc p.0, (h.0, p.1), record { split = ap (λ (l : List ℕ). x ∷ l) p.2.split; rest = p.2.rest }))

pub text_forth : (xs : List ℕ) → AllBytes xs → Holds (λ t r. (length t ≤ 255) × (utf8 t ≡ true) × Front xs (text_bytes t) r) (read_text xs)
unfolding read_text text_bytes
text_forth xs h =
    holds_then _ _ (read16 xs) _ (read16_forth xs h)
    (λ n r p. holds_only_if _ (leb n 255) _
    (λ small. holds_then _ _ (read_many read_byte n r) _ (run_forth n r p.1.rest)
    (λ t r' q. holds_only_if _ (utf8 t) _
    (λ u. (rw q.0 (leb-true n 255 small), u, fronts (subst (λ (k : ℕ). Front xs (bytes16 k) r) (sym q.0) p.1) q.2)))))
