-- What is written is read back: numbers, runs of bytes, texts, inputs. Assumes nothing.
use Prim.Native.Nat.{ℕ, ◌+◌, ◌*◌, ◌/◌, ◌%◌, ◌<◌, ◌≤◌}
use native.Mathlib.Nat.{div-div-eq-div-mul, mod-add-div', mod-eq_of_lt, div-lt_iff_lt-mul}
use native.Mathlib.Omega.{arith}
use mathlib.Core.Path.{◌≡◌, refl, ap}
use mathlib.Core.List.{List, [], ◌∷◌, ◌++◌, append_assoc}
use mathlib.Core.Bool.{true}
use borrow.Author.Tests.{lt-ltb, le-leb}
use lib.ListN.{length}
use Rattle.bits.specs.Bytes.{bytes16, bytes32}
use Rattle.bits.specs.Utf8.{utf8}
use Rattle.list_read.specs.Read.{got, read_byte, read_below, read16, read32, read_many, read_text}
use Rattle.tree.specs.Input.{text_bytes}

pub read16_back : (n : ℕ) (r : List ℕ) → n < 65536 → read16 (bytes16 n ++ r) ≡ got n r
unfolding read16 bytes16
read16_back n r h =
    let e : n % 256 + n / 256 % 256 * 256 ≡ n = omega arith in
    ap (λ (k : ℕ). got k r) e

pub read32_back : (n : ℕ) (r : List ℕ) → n < 4294967296 → read32 (bytes32 n ++ r) ≡ got n r
unfolding read32 bytes32
read32_back n r h =
    let d₂ : n / 256 / 256 ≡ n / 65536 = div-div-eq-div-mul n 256 256 in
    let d₃ : n / 65536 / 256 ≡ n / 16777216 = div-div-eq-div-mul n 65536 256 in
    let s₁ : n % 256 + n / 256 * 256 ≡ n = mod-add-div' n 256 in
    let s₂ : n / 256 % 256 + n / 65536 * 256 ≡ n / 256 = rw d₂ at (mod-add-div' (n / 256) 256) in
    let s₃ : n / 65536 % 256 + n / 16777216 * 256 ≡ n / 65536 = rw d₃ at (mod-add-div' (n / 65536) 256) in
    let s₄ : n / 16777216 % 256 ≡ n / 16777216 = mod-eq_of_lt ((div-lt_iff_lt-mul (omega arith)).1 h) in
    let e : n % 256 + n / 256 % 256 * 256 + n / 65536 % 256 * 65536 + n / 16777216 % 256 * 16777216 ≡ n = rw s₄ (omega arith) in
    ap (λ (k : ℕ). got k r) e

pub below_back : (b n : ℕ) (r : List ℕ) → b < n → read_below n (b ∷ r) ≡ got b r
unfolding read_below
below_back b n r h = rw (lt-ltb b n h)

pub run_back : (ys r : List ℕ) → read_many read_byte (length ys) (ys ++ r) ≡ got ys r
unfolding read_many
run_back [] r = refl
run_back (y ∷ ys) r = rw (run_back ys r)

-- of a run whose length is said otherwise
pub run_back_at : (ys r : List ℕ) (n : ℕ) → length ys ≡ n → read_many read_byte n (ys ++ r) ≡ got ys r
run_back_at ys r n e = rw (← e) (run_back ys r)

pub text_back : (t r : List ℕ) → length t ≤ 255 → utf8 t ≡ true → read_text (text_bytes t ++ r) ≡ got t r
unfolding read_text text_bytes
text_back t r h u =
    let k : length t < 65536 = omega arith in
    rw (append_assoc (bytes16 (length t)) t r, read16_back (length t) (t ++ r) k, le-leb (length t) 255 h, run_back t r, u)
