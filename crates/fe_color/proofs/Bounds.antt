-- What `f32_bound` gives lies between its bounds. Assumes nothing.
use Prim.Native.Nat.{ℕ, ◌+◌, ◌*◌}
use native.Mathlib.Omega.{arith}
use mathlib.Core.Path.{◌≡◌, refl, sym, ◌∙◌, subst}
use mathlib.Core.Logic.{inl, inr}
use mathlib.Core.Bool.{Bool, true, false, cond, ◌||◌, true≢false}
use lib.Dec.{T}
use borrow.Author.Tests.{lt-ltb, le-ltb, eq-eqb}
use lib.Ieee.{Float, nan, inf, fin, up, down, below, level, lt, eq, le}
use lib.Ieee.Scale.{finite}
use Rattle.num.specs.Sign.{f32_bound}
use Rattle.num.proofs.Laws.{by_le}

-- ±a and ±b: where b is not below a, a is below b or level with it
either : (s t : Bool) (a b : ℕ) → below t b s a ≡ false → T (below s a t b || level s a t b)
either false false a b q = elim (by_le a b) [
  | inl l ↦ elim (by_le b a) [
    | inl m ↦ let e : a ≡ b = omega arith in rw (e, le-ltb b b (omega arith), eq-eqb b b refl) tt
    | inr m ↦ rw (lt-ltb a b m) tt
  ]
  | inr l ↦ absurd (true≢false (sym (lt-ltb b a l) ∙ q))
]
either false true a b q = elim (by_le (b + a) 0) [
  | inl l ↦ let e : a ≡ 0 = omega arith in let d : b ≡ 0 = omega arith in rw (e, d) tt
  | inr l ↦ absurd (true≢false (sym (lt-ltb 0 (b + a) l) ∙ q))
]
either true false a b q = elim (by_le (a + b) 0) [
  | inl l ↦ let e : a ≡ 0 = omega arith in let d : b ≡ 0 = omega arith in rw (e, d) tt
  | inr l ↦ rw (lt-ltb 0 (a + b) l) tt
]
either true true a b q = elim (by_le b a) [
  | inl l ↦ elim (by_le a b) [
    | inl m ↦ let e : a ≡ b = omega arith in rw (e, le-ltb b b (omega arith), eq-eqb b b refl) tt
    | inr m ↦ rw (lt-ltb b a m) tt
  ]
  | inr l ↦ absurd (true≢false (sym (lt-ltb a b l) ∙ q))
]

pub le_of_not_lt : (x y : Float) → T (finite x) → T (finite y) → lt y x ≡ false → T (le x y)
unfolding lt eq le
le_of_not_lt nan y h k q = absurd h
le_of_not_lt (inf s) y h k q = absurd h
le_of_not_lt (fin s m e) nan h k q = absurd k
le_of_not_lt (fin s m e) (inf t) h k q = absurd k
le_of_not_lt (fin s m e) (fin t n d) h k q = either s t (m * up e * down d) (n * up d * down e) q

module _ (min v max : Float) (val-finite : T (finite v)) (max-finite : T (finite max)) (ordered : T (le min max)) (min-min : T (le min min)) (max-max : T (le max max)) where
  by_tests : (b c : Bool) → lt max v ≡ b → le min v ≡ c → T (le min (cond b max (cond c v min))) × T (le (cond b max (cond c v min)) max)
  by_tests true c p q = (ordered, max-max)
  by_tests false true p q = (subst T (sym q) tt, le_of_not_lt v max val-finite max-finite p)
  by_tests false false p q = (min-min, ordered)

  pub bound_range : T (le min (f32_bound min v max)) × T (le (f32_bound min v max) max)
  bound_range = by_tests (lt max v) (le min v) refl refl
