-- A converted length of finite numbers is no NaN, and f32 holds it; and what the readers of a sheet give is finite. Assumes nothing.
use Rattle.std.specs.Prelude.{Float, None, Option, Some}
use Rattle.std.proofs.lemmas.Option.{none-some}
use Prim.Native.Nat.{ℕ}
use mathlib.Core.Path.{◌≡◌, refl, subst}
use mathlib.Core.Bool.{Bool, true, false, cond, ◌||◌}
use native.Mathlib.Omega.{arith}
use lib.Dec.{T, eqb}
use lib.Ieee.{Float, binary32, mul, div, of_bits, fits}
use lib.Ieee.Scale.{finite}
use lib.Ieee.Fits.{mul-fits, div-fits}
use Rattle.num.specs.Narrowed.{narrowed, or_zero}
use Rattle.num.specs.Numbers.{IsNumber}
use Rattle.num.proofs.Laws.{nonzero, finite_num, mul_num, div_num}
use Rattle.num.proofs.Finite.{narrowed_fits, or_zero_finite, or_zero_fits}
use Rattle.names.specs.Ids.{aid_y, aid_height}
use Rattle.svgtree.specs.declared.LengthUnit.{LengthUnit}
use Rattle.svgtree.specs.declared.LengthUnit.TheVariants as unit
use Rattle.svgtree.specs.declared.Length.{Length}
use Rattle.svgtree.specs.Values.{Value, absent, text_value, number_value, numbers_value, length_value, color_value, tries_value, Node}
use Rattle.svgtree.specs.Readers.{length_in, value_under, font_size_of}
use Rattle.svgtree.specs.declared.Units.{Units}
use Rattle.svgtree.specs.declared.Units.TheVariants as units
use Rattle.units.specs.declared.State.{State}
use Rattle.num.specs.Constants.{two}
use Rattle.units.specs.Lengths.{cm_per_inch, mm_per_inch, pt_per_inch, pc_per_inch, hundred, percent_base, percent_of, of_unit, convert_length, converted, try_convert_length, resolve_number}

-- a state of finite numbers
pub record FiniteState (state : State) : Type 0 where
  pub width : T (finite state.view_box.width)
  pub height : T (finite state.view_box.height)
  pub dpi : T (finite state.dpi)

-- a number that is no NaN and that f32 holds
pub record Single (x : Float) : Type 0 where
  pub no_nan : IsNumber x
  pub fits32 : T (fits binary32 x)

-- a length as it is read: its number is finite and f32 holds it
pub record ReadLength (l : Length) : Type 0 where
  pub finite_number : T (finite l.number)
  pub fits_number : T (fits binary32 l.number)

-- ---- a product, and a product over a number that is not zero
times : (a b : Float) → T (finite a) → T (finite b) → Single (mul binary32 a b)
times a b p q = record { no_nan = mul_num binary32 a b p q; fits32 = mul-fits binary32 a b }

over : (x k : Float) → IsNumber x → T (nonzero k) → Single (div binary32 x k)
over x k p q = record { no_nan = div_num binary32 x k p q; fits32 = div-fits binary32 x k }

percent_single : (u : Units) (n base : Float) → T (finite n) → T (finite base) → Single (percent_of u n base)
unfolding of_bits
percent_single units.ObjectBoundingBox n base p q = over n hundred (finite_num n p) tt
percent_single units.UserSpaceOnUse n base p q = over (mul binary32 base n) hundred (times base n q p).no_nan tt

unit_single : (u : LengthUnit) (n dpi size p : Float) → T (finite n) → T (fits binary32 n) → T (finite dpi) → T (finite size) → Single p → Single (of_unit u n dpi size p)
unfolding of_bits
unit_single unit.None n dpi size p a f d s q = record { no_nan = finite_num n a; fits32 = f }
unit_single unit.Em n dpi size p a f d s q = times n size a s
unit_single unit.Ex n dpi size p a f d s q = over (mul binary32 n size) two (times n size a s).no_nan tt
unit_single unit.Px n dpi size p a f d s q = record { no_nan = finite_num n a; fits32 = f }
unit_single unit.In n dpi size p a f d s q = times n dpi a d
unit_single unit.Cm n dpi size p a f d s q = over (mul binary32 n dpi) cm_per_inch (times n dpi a d).no_nan tt
unit_single unit.Mm n dpi size p a f d s q = over (mul binary32 n dpi) mm_per_inch (times n dpi a d).no_nan tt
unit_single unit.Pt n dpi size p a f d s q = over (mul binary32 n dpi) pt_per_inch (times n dpi a d).no_nan tt
unit_single unit.Pc n dpi size p a f d s q = over (mul binary32 n dpi) pc_per_inch (times n dpi a d).no_nan tt
unit_single unit.Percent n dpi size p a f d s q = q

cond_finite : (b : Bool) (x y : Float) → T (finite x) → T (finite y) → T (finite (cond b x y))
cond_finite true x y p q = p
cond_finite false x y p q = q

-- "NaN never": no conversion of finite numbers gives one, though it may give an infinity
pub length_single : (l : Length) (aid : ℕ) (u : Units) (state : State) (size : Float) → ReadLength l → FiniteState state → T (finite size)
    → Single (convert_length l aid u state size)
unfolding convert_length
length_single l aid u state size r f s =
    let base = percent_base aid state.view_box in
    let b : T (finite base) = cond_finite (eqb aid aid_y || eqb aid aid_height) state.view_box.height state.view_box.width f.height f.width in
    unit_single l.unit l.number state.dpi size (percent_of u l.number base) r.finite_number r.fits_number f.dpi s
    (percent_single u l.number base r.finite_number b)

-- ---- what is read of a sheet
pub zero_one : ◌≡◌ {A = ℕ} 0 1 → ⊥
zero_one z = omega arith

read_length : (u : LengthUnit) (x : Float) → ReadLength (record { number = or_zero (narrowed x); unit = u })
read_length u x = record { finite_number = or_zero_finite (narrowed x); fits_number = or_zero_fits (narrowed x) (narrowed_fits x) }

-- a length that was read, if any
abbrev pub Readable : Option Length → Type 0
Readable m = (l : Length) → m ≡ Some l → ReadLength l

none_read : Readable None
none_read l e = absurd (none-some l e)

pub readable : (v : Value) → Readable (length_in v)
unfolding length_in
readable absent = none_read
readable (text_value t) = none_read
readable (number_value x) = none_read
readable (numbers_value xs) = none_read
readable (length_value u x) = λ l e. let i : ◌≡◌ {A = Length} (record { number = or_zero (narrowed x); unit = u }) l = cc in subst ReadLength i (read_length u x)
readable (color_value k) = none_read
readable (tries_value t) = none_read

-- ---- an attribute of the filter element, and one of a node
pub resolve_single : (m : Option Length) (aid : ℕ) (u : Units) (state : State) (size : Float) (def : Length) → Readable m → FiniteState state → T (finite size) → ReadLength def
    → Single (resolve_number m aid u state size def)
resolve_single (Some l) aid u state size def r f s d = length_single l aid u state size (r l refl) f s
resolve_single None aid u state size def r f s d = length_single def aid u state size d f s

abbrev pub AllSingle : Option Float → Type 0
AllSingle m = (x : Float) → m ≡ Some x → Single x

converted_single : (m : Option Length) (aid : ℕ) (u : Units) (state : State) (size : Float) → Readable m → FiniteState state → T (finite size) → AllSingle (converted m aid u state size)
converted_single (Some l) aid u state size r f s = λ x e. let i : convert_length l aid u state size ≡ x = cc in subst Single i (length_single l aid u state size (r l refl) f s)
converted_single None aid u state size r f s = λ x e. absurd (none-some x e)

pub try_single : (n : Node) (aid : ℕ) (u : Units) (state : State) → FiniteState state → AllSingle (try_convert_length n aid u state)
try_single n aid u state f = converted_single (length_in (value_under aid n.attributes)) aid u state (font_size_of n) (readable (value_under aid n.attributes)) f (or_zero_finite n.font_size)
