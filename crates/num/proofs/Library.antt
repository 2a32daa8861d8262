-- What the library says of the sign of a float and of finite floats is what is said here. Assumes nothing.
use mathlib.Core.Path.{◌≡◌, refl}
use mathlib.Core.Bool.{true, false}
use lib.Ieee.{Float, nan, inf, fin, is_nan}
use lib.Ieee.Scale.{finite}
use Rattle.std.specs.Float.{float_is_finite, is_sign_negative}
use Rattle.num.specs.Sign.{sign_negative}

pub finite_same : (x : Float) → float_is_finite x ≡ finite x
unfolding float_is_finite
finite_same nan = refl
finite_same (inf s) = refl
finite_same (fin s m e) = refl

pub sign_same : (x : Float) → is_sign_negative x ≡ sign_negative x
unfolding is_sign_negative
sign_same nan = refl
sign_same (inf s) = refl
sign_same (fin s m e) = refl

-- a NaN has no sign
pub nan_no_sign : (x : Float) → is_nan x ≡ true → false ≡ sign_negative x
unfolding is_nan
nan_no_sign nan e = refl
nan_no_sign (inf s) e = cc
nan_no_sign (fin s m e) h = cc
