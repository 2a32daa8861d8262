-- What holds of the numbers of a node's values holds of a number that is read from the node, or of its default, and of each number of a list; every
-- number that is read is finite. Assumes nothing.
use Rattle.std.specs.Prelude.{None, Option, Some}
use Prim.Native.Nat.{ℕ, ◌*◌, ◌≤◌}
use native.Mathlib.Nat.{zero-lt-suc}
use native.Mathlib.Omega.{arith}
use mathlib.Core.Path.{refl}
use mathlib.Core.Bool.{Bool, true, false, cond}
use mathlib.Core.List.{List, map}
use lib.Dec.{T}
use lib.Ieee.{Float, nan, inf, fin, binary32, up, down, of_bits, mul, le}
use lib.Ieee.Scale.{finite}
use lib.Ieee.Fits.{and_l, down_pos}
use lib.Ieee.Order.{le_of_values}
use Rattle.num.specs.Constants.{plus_zero, one}
use Rattle.num.specs.Narrowed.{or_zero}
use Rattle.num.specs.Numbers.{IsFinite, IsNumber, Each}
use Rattle.num.specs.Sign.{positive}
use Rattle.num.proofs.Laws.{finite_num, plus, mul_num}
use Rattle.num.proofs.Finite.{or_zero_finite}
use Rattle.num.proofs.Each.{each_map, each_all}
use Rattle.svgtree.specs.Values.{Node, Value, absent, text_value, number_value, numbers_value, length_value, color_value, tries_value}
use Rattle.svgtree.specs.Readers.{number_in, numbers_in, value_under, numbers_of, or_default}
use Rattle.fe.specs.Attributes.{number_or}

module _ (P : Float → Type 0) where
  -- of the numbers that a value is read as
  abbrev pub ValueHolds : Value → Type 0
  ValueHolds absent = Unit {0}
  ValueHolds (text_value t) = Unit {0}
  ValueHolds (number_value x) = P (or_zero x)
  ValueHolds (numbers_value xs) = Each P (map or_zero xs)
  ValueHolds (length_value u x) = Unit {0}
  ValueHolds (color_value k) = Unit {0}
  ValueHolds (tries_value t) = Unit {0}

  -- of those of each attribute, by its id
  abbrev pub NodeHolds : Node → Type 0
  NodeHolds n = (id : ℕ) → ValueHolds (value_under id n.attributes)

  -- of each number of a list that may be absent
  abbrev pub ListHolds : Option (List Float) → Type 0
  ListHolds None = Unit {0}
  ListHolds (Some xs) = Each P xs

  number_in_lem : (v : Value) (d : Float) → ValueHolds v → P d → P (or_default (number_in v) d)
  unfolding number_in
  number_in_lem absent d h k = k
  number_in_lem (text_value t) d h k = k
  number_in_lem (number_value x) d h k = h
  number_in_lem (numbers_value xs) d h k = k
  number_in_lem (length_value u x) d h k = k
  number_in_lem (color_value c) d h k = k
  number_in_lem (tries_value t) d h k = k

  numbers_in_lem : (v : Value) → ValueHolds v → ListHolds (numbers_in v)
  unfolding numbers_in
  numbers_in_lem absent h = tt
  numbers_in_lem (text_value t) h = tt
  numbers_in_lem (number_value x) h = tt
  numbers_in_lem (numbers_value xs) h = h
  numbers_in_lem (length_value u x) h = tt
  numbers_in_lem (color_value c) h = tt
  numbers_in_lem (tries_value t) h = tt

  pub number_or_lem : (n : Node) → NodeHolds n → (id : ℕ) (d : Float) → P d → P (number_or n id d)
  number_or_lem n h id d k = number_in_lem (value_under id n.attributes) d (h id) k

  pub numbers_of_lem : (n : Node) → NodeHolds n → (id : ℕ) → ListHolds (numbers_of n id)
  numbers_of_lem n h id = numbers_in_lem (value_under id n.attributes) (h id)

-- ---- what is read is finite: what holds of every finite number holds of it

module _ (P : Float → Type 0) (finite_is : (x : Float) → IsFinite x → P x) where
  value_holds : (v : Value) → ValueHolds P v
  value_holds absent = tt
  value_holds (text_value t) = tt
  value_holds (number_value x) = finite_is (or_zero x) (or_zero_finite x)
  value_holds (numbers_value xs) =
      each_map (λ x. Unit {0}) P or_zero (λ x u. finite_is (or_zero x) (or_zero_finite x)) xs (each_all (λ x. Unit {0}) (λ x. tt) xs)
  value_holds (length_value u x) = tt
  value_holds (color_value k) = tt
  value_holds (tries_value t) = tt

  pub node_holds : (n : Node) → NodeHolds P n
  node_holds n id = value_holds (value_under id n.attributes)

pub node_finite : (n : Node) → NodeHolds IsFinite n
node_finite n = node_holds IsFinite (λ x h. h) n

pub number_or_finite : (n : Node) (id : ℕ) (d : Float) → IsFinite d → IsFinite (number_or n id d)
number_or_finite n id d h = number_or_lem IsFinite n (node_finite n) id d h

pub number_or_num : (n : Node) (id : ℕ) (d : Float) → IsNumber d → IsNumber (number_or n id d)
number_or_num n id d h = number_or_lem IsNumber n (node_holds IsNumber finite_num n) id d h

pub numbers_finite : (n : Node) (id : ℕ) → ListHolds IsFinite (numbers_of n id)
numbers_finite n id = numbers_of_lem IsFinite n (node_finite n) id

pub one_finite : IsFinite one
unfolding of_bits
one_finite = tt

-- a number that is scaled is no NaN
pub scaled_num : (n : Node) (id : ℕ) (d scale : Float) → IsFinite d → IsFinite scale → IsNumber (mul binary32 (number_or n id d) scale)
scaled_num n id d scale h k = mul_num binary32 (number_or n id d) scale (number_or_finite n id d h) k

-- ---- positive numbers

-- a positive number is finite, so it is no NaN
pub positive_finite : (x : Float) → T (positive x) → IsFinite x
positive_finite x h = and_l (finite x) (le plus_zero x) h

pub positive_num : (x : Float) → T (positive x) → IsNumber x
positive_num x h = finite_num x (positive_finite x h)

-- what is not positive becomes a default, which is
pub or_positive : (x d : Float) → T (positive d) → T (positive (cond (positive x) x d))
or_positive x d k = go (positive x) (λ h. h)
  where
    go : (b : Bool) → (T b → T (positive x)) → T (positive (cond b x d))
    go true f = f tt
    go false f = k

zero_positive : T (positive plus_zero)
unfolding of_bits le
zero_positive = tt

pub made_positive : (x : Float) → T (positive (cond (positive x) x plus_zero))
made_positive x = or_positive x plus_zero zero_positive

-- finite and not negative is positive
pub plus_positive : (x : Float) → IsFinite x → T (plus x) → T (positive x)
unfolding of_bits
plus_positive nan h p = absurd h
plus_positive (inf s) h p = absurd h
plus_positive (fin true m e) h p = absurd p
plus_positive (fin false m e) h p =
    let w : 0 * down e ≤ m * up e * 1 = omega arith in
    le_of_values plus_zero (fin false m e) 0 1 (m * up e) (down e) (zero-lt-suc 0) (down_pos e) (refl, refl) (refl, refl) w
