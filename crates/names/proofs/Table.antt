-- A `match` from numbers to kinds against a function of them. That the value of the last arm is the function's at each number of a run is one test,
-- which is computed.
-- Assumes nothing.
use mathlib.Core.Path.{◌≡◌, refl, sym, ◌∙◌, ap}
use Rattle.std.specs.Prelude.{Option, Some, None}
use Rattle.sheet_fields.specs.declared.kind.ValueKind.{ValueKind}
use Rattle.sheet_fields.specs.declared.kind.ValueKind.TheVariants as kind
use Rattle.sheet_fields.specs.Kinds.{byte_of}
use mathlib.Core.Bool.{Bool, true, false, cond, ◌&&◌, ◌||◌}
use mathlib.Core.List.{List, [], ◌∷◌}
use Prim.Native.Nat.{ℕ, zero, suc, ◌+◌, ◌≤◌, ◌<◌}
use native.Mathlib.Omega.{arith}
use lib.Dec.{T, eqb, eqb→eq, ltb}
use borrow.Author.Tests.{ltb-true, ltb-false}
use mir.Val.{has_key}
use types.Run.{OneOf, hit}

pub and_left : (a b : Bool) → T (a && b) → T a
and_left true b t = tt
and_left false b t = t

pub and_right : (a b : Bool) → T (a && b) → T b
and_right true b t = t
and_right false b t = absurd t

-- none of the arms with these keys takes a number
abbrev pub NoneOf : List (List ℕ) → ℕ → Type 0
NoneOf [] x = Unit {0}
NoneOf (ks ∷ arms) x = NoneOf arms x × (OneOf ks x → ⊥)

abbrev is_key : List (List ℕ) → ℕ → Bool
is_key [] x = false
is_key (ks ∷ arms) x = has_key ks x || is_key arms x

not_key : (arms : List (List ℕ)) (x : ℕ) → NoneOf arms x → T (is_key arms x) → ⊥
not_key [] x none t = t
not_key (ks ∷ arms) x none t = go (has_key ks x) (hit ks x) t (not_key arms x none.0)
  where
    go : (b : Bool) → (T b → OneOf ks x) → T (b || is_key arms x) → (T (is_key arms x) → ⊥) → ⊥
    go true h u later = none.1 (h tt)
    go false h u later = later u

-- whether two kinds that are asked are the same

abbrev mark : Option ValueKind → ℕ
mark None = 0
mark (Some k) = suc (byte_of k)

abbrev kind_marked : ℕ → Option ValueKind
kind_marked m =
    cond (eqb m 1) (Some kind.Unreadable)
    (cond (eqb m 2) (Some kind.Text)
    (cond (eqb m 3) (Some kind.Number)
    (cond (eqb m 4) (Some kind.Numbers)
    (cond (eqb m 5) (Some kind.Length)
    (cond (eqb m 6) (Some kind.Color)
    (cond (eqb m 7) (Some kind.Tries)
    (cond (eqb m 8) (Some kind.Typed) None)))))))

mark_kept : (a : Option ValueKind) → kind_marked (mark a) ≡ a
mark_kept None = refl
mark_kept (Some kind.Unreadable) = refl
mark_kept (Some kind.Text) = refl
mark_kept (Some kind.Number) = refl
mark_kept (Some kind.Numbers) = refl
mark_kept (Some kind.Length) = refl
mark_kept (Some kind.Color) = refl
mark_kept (Some kind.Tries) = refl
mark_kept (Some kind.Typed) = refl

abbrev pub same : Option ValueKind → Option ValueKind → Bool
same a b = eqb (mark a) (mark b)

pub same→eq : (a b : Option ValueKind) → T (same a b) → a ≡ b
same→eq a b t = sym (mark_kept a) ∙ ap kind_marked (eqb→eq (mark a) (mark b) t) ∙ mark_kept b

module _ (f : ℕ → Option ValueKind) (v : Option ValueKind) where
  -- the n numbers from i on that are no arm's keys

  abbrev pub value_from : List (List ℕ) → (i n : ℕ) → Bool
  value_from arms i zero = true
  value_from arms i (suc n) = (is_key arms i || same v (f i)) && value_from arms (suc i) n

  module _ (arms : List (List ℕ)) (x : ℕ) (none : NoneOf arms x) where
    either : (b : Bool) → (T b → ⊥) → T (b || same v (f x)) → v ≡ f x
    either true not t = absurd (not tt)
    either false not t = same→eq v (f x) t

    pub ranged : (i n : ℕ) → T (value_from arms i n) → i ≤ x → x < i + n → v ≡ f x
    ranged i zero t l h = absurd (omega arith)
    ranged i (suc n) t l h = go (ltb i x) refl (ranged (suc i) n (and_right (is_key arms i || same v (f i)) (value_from arms (suc i) n) t))
      where
        go : (b : Bool) → ltb i x ≡ b → (suc i ≤ x → x < suc i + n → v ≡ f x) → v ≡ f x
        go true q ih = ih (omega (arith, ltb-true i x q)) (omega arith)
        go false q ih =
            let e : i ≡ x = omega (arith, ltb-false i x q) in
            either (is_key arms x) (not_key arms x none) (rw e at (and_left (is_key arms i || same v (f i)) (value_from arms (suc i) n) t))
