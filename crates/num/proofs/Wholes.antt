-- A float as a whole number: the library's roundings give what `rounded` and `octaves_of` say. Assumes nothing.
use mathlib.Core.Path.{◌≡◌, refl, sym, ap, ◌∙◌, subst}
use Prim.Native.Nat.{ℕ, zero, suc, ◌+◌, ◌*◌, ◌/◌, ◌%◌, ◌^◌, ◌<◌, min}
use native.Mathlib.Nat.{mul-one, mul_comm, mul_assoc, mul-div_cancel, mul-lt-mul_of_pos_right, zero-mul, zero-lt-suc, le_of_eq, lt_of_le_of_lt}
use native.Mathlib.Omega.{arith}
use mathlib.Core.Bool.{Bool, true, false, cond, ◌&&◌}
use lib.IntN.{ℤ, pos, negsuc, neg_ℤ}
use lib.Dec.{T, eqb, leb, ltb, ltb→lt}
use lib.Pow.{pow-add, pow_pos}
use lib.Ieee.{Float, nan, inf, fin, binary32, up, down, round, fits, to_bits, to_unsigned, to_signed}
use lib.Ieee.Fits.{and_l, and_r, down_pos}
use lib.Ieee.Exact.{HasValue, round_exact}
use lib.Ieee.Back.{round_whole}
use lib.Ieee.Nearest.{closest}
use Rattle.std.specs.Float.{float_round, round_ties_even, round_with, ratio_round_half_up}
use Rattle.num.specs.Numbers.{IsNumber}
use Rattle.num.specs.Sign.{sign_negative}
use Rattle.num.specs.Means.{whole_by, cut_size, held_signed}
use Rattle.num.specs.Whole.{half_up, rounded, octaves_of}
use Rattle.num.proofs.Laws.{round_num}
use Rattle.num.proofs.Roundings.{even_closest, closest_le, closest_whole}

-- ---- a half away from zero
half_same : (n d : ℕ) → ratio_round_half_up n d ≡ half_up n d
half_same n d = ap (λ (z : ℕ). (z + d) / (2 * d)) (mul_comm 2 n) ∙ ap (λ (z : ℕ). (n * 2 + d) / z) (mul_comm 2 d)

pub round_same : (x : Float) → float_round binary32 x ≡ rounded x
unfolding round_with rounded
round_same nan = refl
round_same (inf s) = refl
round_same (fin false m e) = ap (λ (n : ℕ). round binary32 false n 1) (half_same (m * up e) (down e))
round_same (fin true m e) = ap (λ (n : ℕ). round binary32 true n 1) (half_same (m * up e) (down e))

pub rounded_num : (x : Float) → IsNumber x → IsNumber (rounded x)
unfolding rounded
rounded_num nan h = h
rounded_num (inf s) h = h
rounded_num (fin s m e) h = round_num binary32 s (half_up (m * up e) (down e)) 1

-- 1 with either sign, by its bits
pub one_bits_lem : (s : Bool) → to_bits binary32 (round binary32 s 1 1) ≡ cond s 2147483648 0 + 1065353216
unfolding to_bits round
one_bits_lem true = refl
one_bits_lem false = refl

-- ---- a half to the even one

-- an f32 has at most 24 digits, and lies below 2 ^ 128
digits_few : (s : Bool) (m : ℕ) (e : ℤ) → T (fits binary32 (fin s m e)) → m < 16777216
unfolding fits
digits_few s zero e t = zero-lt-suc 16777215
digits_few s (suc m) e t =
    let a : Bool = eqb (suc m % 2) 1 in
    let b : Bool = ltb (suc m) 16777216 in
    let c : Bool = leb (down e) (2 ^ 149) in
    ltb→lt (suc m) 16777216 (and_r a b (and_l (a && b) c (and_l (a && b && c) (ltb (suc m * up e) (2 ^ 128 * down e)) t)))

below_top : (s : Bool) (m k : ℕ) → T (fits binary32 (fin s m (pos k))) → m * 2 ^ k < 2 ^ 128
unfolding fits
below_top s zero k t = lt_of_le_of_lt (le_of_eq (zero-mul (2 ^ k))) (pow_pos 128)
below_top s (suc m) k t = ltb→lt (suc m * 2 ^ k) (2 ^ 128) (and_r (eqb (suc m % 2) 1 && ltb (suc m) 16777216 && leb 1 (2 ^ 149)) (ltb (suc m * 2 ^ k) (2 ^ 128)) t)

-- so its nearest whole number is an f32: below 2 ^ 24 each one is, and from there on the f32 is whole itself
nearest_held : (s : Bool) (m : ℕ) (e : ℤ) → T (fits binary32 (fin s m e)) → HasValue (round binary32 s (closest (m * up e) (down e)) 1) s (closest (m * up e) (down e)) 1
nearest_held s m (negsuc k) t =
    let h = digits_few s m (negsuc k) t in
    let c = closest_le (m * 1) (2 ^ suc k) in
    round_whole binary32 s (closest (m * 1) (2 ^ suc k)) (omega arith)
nearest_held s m (pos k) t =
    let w = m * 2 ^ k in
    let e : w * 2 ^ 149 ≡ m * 2 ^ (k + 149) = mul_assoc m (2 ^ k) (2 ^ 149) ∙ ap (λ (z : ℕ). m * z) (sym (pow-add 2 k 149)) in
    let f : m * 2 ^ (k + 149) < 2 ^ 277 = lt_of_le_of_lt (le_of_eq (sym e)) (mul-lt-mul_of_pos_right (below_top s m k t) (pow_pos 149)) in
    subst (λ (n : ℕ). HasValue (round binary32 s n 1) s n 1) (sym (closest_whole w))
    (round_exact binary32 s w 1 m (k + 149) (zero-lt-suc 0) (digits_few s m (pos k) t) f (e ∙ sym (mul-one (m * 2 ^ (k + 149)))))

-- cut, it is that number
cut_of : (x : Float) (n : ℕ) → HasValue x false n 1 → to_unsigned 32 x ≡ min n 4294967295
unfolding to_unsigned
cut_of nan n h = absurd h
cut_of (inf s) n h = absurd h
cut_of (fin s m e) n h =
    ap (λ (t : Bool). cond t 0 (min (m * up e / down e) 4294967295)) h.0
    ∙ ap (λ (z : ℕ). min (z / down e) 4294967295) (sym (mul-one (m * up e)) ∙ h.1)
    ∙ ap (λ (z : ℕ). min z 4294967295) (mul-div_cancel n (down_pos e))

pub octaves_same : (x : Float) → T (fits binary32 x) → sign_negative x ≡ false → to_unsigned 32 (round_ties_even binary32 x) ≡ octaves_of x
unfolding round_with octaves_of to_unsigned
octaves_same nan f h = refl
octaves_same (inf false) f h = refl
octaves_same (inf true) f h = cc
octaves_same (fin true m e) f h = cc
octaves_same (fin false m e) f h =
    cut_of (round binary32 false (closest (m * up e) (down e)) 1) (closest (m * up e) (down e)) (nearest_held false m e f)
    ∙ ap (λ (n : ℕ). min n 4294967295) (sym (even_closest (m * up e) (down e) (down_pos e)))

pub octaves_none : (x : Float) → sign_negative x ≡ true → 0 ≡ octaves_of x
unfolding octaves_of
octaves_none nan h = cc
octaves_none (inf s) h = rw h refl
octaves_none (fin s m e) h = rw h refl

-- ---- cut
-- x is finite and has the sign s
abbrev pub Sign : Float → Bool → Type 0
Sign nan s = ⊥
Sign (inf t) s = ⊥
Sign (fin t m e) s = t ≡ s

-- the library's cut to an i32, by the sign and the size
pub to_signed_lem : (x : Float) (s : Bool) → Sign x s → to_signed 31 x ≡ held_signed s (cut_size x)
unfolding to_signed whole_by held_signed
to_signed_lem nan s h = absurd h
to_signed_lem (inf t) s h = absurd h
to_signed_lem (fin t m e) s h = ap (λ (b : Bool). cond b (neg_ℤ (pos (min (m * up e / down e) 2147483648))) (pos (min (m * up e / down e) 2147483647))) h
