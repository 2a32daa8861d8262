-- Which bits are a finite number's, and what `single` and `double_narrowed` read. Assumes nothing.
use Rattle.std.specs.Prelude.{None, Some, unwrap_or}
use mathlib.Core.Path.{◌≡◌, refl, sym, ap, ◌∙◌, subst}
use Prim.Native.Nat.{ℕ, ◌*◌, ◌%◌, ◌<◌, ◌≤◌}
use mathlib.Core.Bool.{Bool, true, false, not}
use lib.Dec.{T}
use borrow.Author.Tests.{lt-ltb, le-ltb}
use lib.Ieee.{Float, nan, inf, fin, binary32, binary64, up, down, fits, nan_bits, of_bits, to_bits}
use lib.Ieee.Fits.{round-fits, nan-fits, inf-fits}
use lib.Ieee.Bits.{of_bits-to_bits, of_bits-fits, nan_bits_is}
use lib.Ieee.Scale.{finite}
use Rattle.num.proofs.Laws.{finite_num}
use Rattle.num.proofs.Patterns.{finite_bits}
use Rattle.num.specs.Narrowed.{narrowed, or_zero}
use Rattle.num.specs.Means.{if_finite, pick_number, single_of, double_of}
use Rattle.num.specs.Constants.{plus_zero}

pub narrowed_fits : (x : Float) → T (fits binary32 (narrowed x))
unfolding narrowed
narrowed_fits nan = nan-fits binary32
narrowed_fits (inf s) = inf-fits binary32 s
narrowed_fits (fin s m e) = round-fits binary32 s (m * up e) (down e)

-- the bits of a number stand for it
pub bits_back : (x : Float) (n : ℕ) → T (fits binary32 x) → n ≡ to_bits binary32 x → of_bits binary32 n ≡ x
bits_back x n f e = ap (of_bits binary32) e ∙ of_bits-to_bits binary32 x f

pub narrowed_back : (x : Float) (n : ℕ) → n ≡ to_bits binary32 (narrowed x) → of_bits binary32 n ≡ narrowed x
narrowed_back x n e = bits_back (narrowed x) n (narrowed_fits x) e

-- ---- an f32's bits
module _ (n : ℕ) where
  yes : n % 2147483648 < 2139095040 → finite (of_bits binary32 n) ≡ true
  yes h = finite_bits n ∙ lt-ltb (n % 2147483648) 2139095040 h

  no : 2139095040 ≤ n % 2147483648 → finite (of_bits binary32 n) ≡ false
  no h = finite_bits n ∙ le-ltb (n % 2147483648) 2139095040 h

  pub bits_num : n % 2147483648 < 2139095040 → T (not (nan_bits binary32 n))
  bits_num h = subst (λ (b : Bool). T (not b)) (sym (nan_bits_is binary32 n)) (finite_num (of_bits binary32 n) (subst T (sym (yes h)) tt))

  pub number_yes : n % 2147483648 < 2139095040 → Some (of_bits binary32 n) ≡ if_finite (of_bits binary32 n)
  unfolding if_finite
  number_yes h = ap (λ (t : Bool). pick_number t (Some (of_bits binary32 n)) None) (sym (yes h))

  pub number_no : 2139095040 ≤ n % 2147483648 → None ≡ if_finite (of_bits binary32 n)
  unfolding if_finite
  number_no h = ap (λ (t : Bool). pick_number t (Some (of_bits binary32 n)) None) (sym (no h))

-- a number that is not finite is read as 0
finite_or_zero : (x : Float) → unwrap_or (if_finite x) plus_zero ≡ or_zero x
unfolding if_finite or_zero
finite_or_zero nan = refl
finite_or_zero (inf s) = refl
finite_or_zero (fin s m e) = refl

pub single_or_zero : (n : ℕ) → unwrap_or (if_finite (of_bits binary32 n)) plus_zero ≡ single_of n
unfolding single_of
single_or_zero n = finite_or_zero (of_bits binary32 n)

pub double_or_zero : (n : ℕ) → unwrap_or (if_finite (narrowed (of_bits binary64 n))) plus_zero ≡ double_of n
unfolding double_of
double_or_zero n = finite_or_zero (narrowed (of_bits binary64 n))

-- ---- what is read is finite, whatever the bits
pub zero_finite : T (finite plus_zero)
unfolding of_bits
zero_finite = tt

pub or_zero_is : (x : Float) → finite x ≡ true → or_zero x ≡ x
unfolding or_zero
or_zero_is x e = rw e

pub or_zero_finite : (x : Float) → T (finite (or_zero x))
unfolding or_zero of_bits
or_zero_finite nan = tt
or_zero_finite (inf s) = tt
or_zero_finite (fin s m e) = tt

pub or_zero_fits : (x : Float) → T (fits binary32 x) → T (fits binary32 (or_zero x))
unfolding or_zero
or_zero_fits nan h = of_bits-fits binary32 0
or_zero_fits (inf s) h = of_bits-fits binary32 0
or_zero_fits (fin s m e) h = h
