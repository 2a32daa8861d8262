-- A record in the layout has at most 165,100 bytes, so that the offsets of any list in it fit a u32. Assumes nothing.
use Rattle.std.specs.Prelude.{None, Option, Some}
use Prim.Native.Nat.{ℕ, zero, suc, ◌+◌, ◌*◌, ◌<◌, ◌≤◌}
use native.Mathlib.Omega.{arith}
use mathlib.Core.Path.{◌≡◌, subst}
use mathlib.Core.List.{List, [], ◌∷◌, ◌++◌}
use mathlib.Core.Bool.{true, ◌&&◌}
use borrow.Author.Tests.{ltb-true, leb-true, eqb-true}
use lib.Dec.{T, leb, ltb}
use lib.Ieee.Bits.{is_true}
use lib.ListN.{length, length-append, get_or}
use Rattle.bits.specs.Bytes.{bytes16}
use Rattle.list_read.specs.Read.{Got, outside, got, read_byte, read_below, read16, read32, read_many}
use Rattle.list_read.specs.Layout.{Item, byte_below, any_bytes, f32s, vec, option, Field, item, enum, Arity, exactly, counted, Layout, layouts, layout_of, walk_item, walk_items, walk_field, walk_fields, at_end}
use Rattle.tree.specs.Input.{InputOf, SourceGraphic, SourceAlpha, Reference, text_bytes}
use Rattle.tree.specs.List.{input_run}
use Rattle.list_read.specs.Records.{Form, ListRecord}
use Rattle.list_read.specs.Write.{write_input, write_inputs, write_record, arity_fits, input_fits, inputs_fit, InLayout, write_records, AllInLayout}
use Rattle.list_read.proofs.Forth.{Holds, holds_then, holds_only_if}
use Rattle.std.proofs.lemmas.Bool.{and_parts}
use Rattle.list_read.proofs.Forms.{Lawful, text_size, holds_map}

-- at most so many bytes were passed
abbrev Passed : ℕ → List ℕ → {A : Type 0} → A → List ℕ → Type 0
Passed most xs a r = length xs ≤ most + length r

below_size : (n : ℕ) (xs : List ℕ) → Holds (λ b r. (b < n) × Passed 1 xs b r) (read_below n xs)
unfolding read_below
below_size n [] = tt
below_size n (x ∷ xs) = holds_only_if _ (ltb x n) _ (λ e. (ltb-true x n e, omega arith))

word_size : (xs : List ℕ) → Holds (Passed 4 xs) (read32 xs)
unfolding read32
word_size [] = tt
word_size (a ∷ []) = tt
word_size (a ∷ b ∷ []) = tt
word_size (a ∷ b ∷ c ∷ []) = tt
word_size (a ∷ b ∷ c ∷ d ∷ r) = omega arith

half_size : (xs : List ℕ) → Holds (Passed 2 xs) (read16 xs)
unfolding read16
half_size [] = tt
half_size (a ∷ []) = tt
half_size (a ∷ b ∷ r) = omega arith

byte_size : (xs : List ℕ) → Holds (Passed 1 xs) (read_byte xs)
byte_size [] = tt
byte_size (x ∷ xs) = omega arith

run_size : (n : ℕ) (xs : List ℕ) → Holds (Passed n xs) (read_many read_byte n xs)
unfolding read_many
run_size zero xs = omega arith
run_size (suc n) xs =
    holds_then _ _ (read_byte xs) _ (byte_size xs)
    (λ a r p. holds_then _ _ (read_many read_byte n r) _ (run_size n r) (λ as' r' q. omega arith))

floats_size : (n : ℕ) (xs : List ℕ) → Holds (Passed (4 * n) xs) (read_many read32 n xs)
unfolding read_many
floats_size zero xs = omega arith
floats_size (suc n) xs =
    holds_then _ _ (read32 xs) _ (word_size xs)
    (λ a r p. holds_then _ _ (read_many read32 n r) _ (floats_size n r) (λ as' r' q. omega arith))

abbrev item_most : Item → ℕ
item_most (byte_below n) = 1
item_most (any_bytes n) = n
item_most (f32s n) = 4 * n
item_most (vec low high) = 2 + 4 * high
item_most option = 5

item_size : (i : Item) (xs : List ℕ) → Holds (Passed (item_most i) xs) (walk_item i xs)
unfolding walk_item
item_size (byte_below n) xs = holds_then _ _ (read_below n xs) _ (below_size n xs) (λ b r p. p.1)
item_size (any_bytes n) xs = holds_then _ _ (read_many read_byte n xs) _ (run_size n xs) (λ b r p. p)
item_size (f32s n) xs = floats_size n xs
item_size (vec low high) xs =
    holds_then _ _ (read16 xs) _ (half_size xs)
    (λ n r p. holds_only_if _ (leb low n && leb n high) _
    (λ e. holds_map _ _ (read_many read32 n r) (λ ns r' q. omega (arith, leb-true n high (and_parts (leb low n) (leb n high) e).1)) (floats_size n r)))
item_size option xs =
    holds_then _ _ (read_below 2 xs) _ (below_size 2 xs)
    (λ n r p. holds_map _ _ (read_many read32 n r) (λ ns r' q. omega (arith, p.0, p.1)) (floats_size n r))

unfoldable items_most : List Item → ℕ
items_most [] = 0
items_most (i ∷ is) = item_most i + items_most is

items_size : (is : List Item) (xs : List ℕ) → Holds (Passed (items_most is) xs) (walk_items is xs)
unfolding walk_items items_most
items_size [] xs = omega arith
items_size (i ∷ is) xs =
    holds_then _ _ (walk_item i xs) _ (item_size i xs)
    (λ ns r p. holds_then _ _ (walk_items is r) _ (items_size is r) (λ ms r' q. omega arith))

unfoldable cases_most : List (List Item) → ℕ
cases_most [] = 0
cases_most (is ∷ cases) = items_most is + cases_most cases

case_most : (cases : List (List Item)) (k : ℕ) → items_most (get_or cases k []) ≤ cases_most cases
unfolding cases_most items_most
case_most [] zero = omega arith
case_most [] (suc k) = omega arith
case_most (is ∷ cases) zero = omega arith
case_most (is ∷ cases) (suc k) = omega (arith, case_most cases k)

abbrev field_most : Field → ℕ
field_most (item i) = item_most i
field_most (enum cases) = 1 + cases_most cases

field_size_lem : (f : Field) (xs : List ℕ) → Holds (Passed (field_most f) xs) (walk_field f xs)
unfolding walk_field
field_size_lem (item i) xs = item_size i xs
field_size_lem (enum cases) xs =
    holds_then _ _ (read_below (length cases) xs) _ (below_size (length cases) xs)
    (λ k r p. holds_map _ _ (walk_items (get_or cases k []) r) (λ ns r' q. omega (arith, p.1, case_most cases k)) (items_size (get_or cases k []) r))

unfoldable fields_most : List Field → ℕ
fields_most [] = 0
fields_most (f ∷ fs) = field_most f + fields_most fs

fields_size : (fs : List Field) (xs : List ℕ) → Holds (Passed (fields_most fs) xs) (walk_fields fs xs)
unfolding walk_fields fields_most
fields_size [] xs = omega arith
fields_size (f ∷ fs) xs =
    holds_then _ _ (walk_field f xs) _ (field_size_lem f xs)
    (λ ns r p. holds_then _ _ (walk_fields fs r) _ (fields_size fs r) (λ ms r' q. omega arith))

end_size : (most : ℕ) (xs : List ℕ) (g : Got (List ℕ)) → Holds (Passed most xs) g → at_end g ≡ true → length xs ≤ most
end_size most xs outside h e = cc
end_size most xs (got ns []) h e = omega arith
end_size most xs (got ns (x ∷ r)) h e = cc

-- the table: each kind's fields, and a fixed number of inputs

abbrev arity_most : Arity → ℕ
arity_most (exactly n) = n
arity_most counted = 511

abbrev Small : Option Layout → Type 0
Small None = Unit {0}
Small (Some l) = T (leb (fields_most l.fields) 32868 && leb (arity_most l.inputs) 511)

unfoldable AllSmall : List (Option Layout) → Type 0
AllSmall [] = Unit {0}
AllSmall (o ∷ os) = Small o × AllSmall os

small_at : (os : List (Option Layout)) → AllSmall os → (k : ℕ) → Small (get_or os k None)
unfolding AllSmall
small_at [] h zero = tt
small_at [] h (suc k) = tt
small_at (o ∷ os) h zero = h.0
small_at (o ∷ os) h (suc k) = small_at os h.1 k

table_small : AllSmall layouts
unfolding AllSmall fields_most cases_most items_most
table_small = (tt, (tt, (tt, (tt, (tt, (tt, (tt, (tt, (tt, (tt, (tt, (tt, (tt, (tt, (tt, (tt, (tt, tt)))))))))))))))))

layout_small : (k : ℕ) (l : Layout) → layout_of k ≡ Some l → (fields_most l.fields ≤ 32868) × (arity_most l.inputs ≤ 511)
unfolding layout_of
layout_small k l e =
    let b = leb (fields_most l.fields) 32868 in
    let c = leb (arity_most l.inputs) 511 in
    let h = is_true (b && c) (subst Small e (small_at layouts table_small k)) in
    (leb-true _ _ (and_parts b c h).0, leb-true _ _ (and_parts b c h).1)

module _ {R : Type 0} (f : Form R) (law : Lawful f) where
  pub input_size : (i : InputOf R) → input_fits f i ≡ true → length (write_input f i) ≤ 258
  input_size SourceGraphic h = omega arith
  input_size SourceAlpha h = omega arith
  input_size (Reference t) h = omega (arith, law.size t h)

  pub inputs_size : (is : List (InputOf R)) → inputs_fit f is ≡ true → length (input_run (write_input f) is) ≤ 258 * length is
  unfolding input_run inputs_fit
  inputs_size [] h = omega arith
  inputs_size (i ∷ is) h =
      omega (arith, length-append (write_input f i) (input_run (write_input f) is), input_size i (and_parts (input_fits f i) (inputs_fit f is) h).0, inputs_size is (and_parts (input_fits f i) (inputs_fit f is) h).1)

  arity_size : (a : Arity) (is : List (InputOf R)) → arity_most a ≤ 511 → arity_fits a (length is) ≡ true → inputs_fit f is ≡ true → length (write_inputs f a is) ≤ 131840
  unfolding write_inputs bytes16
  arity_size (exactly n) is m h k = omega (arith, eqb-true (length is) n h, inputs_size is k)
  arity_size counted is m h k = omega (arith, leb-true (length is) 511 h, inputs_size is k)

  pub record_size : (r : ListRecord R) → InLayout f r → length (write_record f r) ≤ 165100
  unfolding write_record
  record_size r g =
      let z = layout_small r.kind g.layout g.known in
      let i = arity_size g.layout.inputs r.inputs z.1 g.arity g.inputs in
      let e : length r.fields ≤ fields_most g.layout.fields = end_size (fields_most g.layout.fields) r.fields (walk_fields g.layout.fields r.fields) (fields_size g.layout.fields r.fields) g.fields in
      let is = write_inputs f g.layout.inputs r.inputs in
      rw g.known
      (omega (
        arith,
        length-append r.rect (r.color_interpolation ∷ text_bytes r.result ++ (r.kind ∷ is ++ r.fields)),
        length-append (text_bytes r.result) (r.kind ∷ is ++ r.fields),
        length-append is r.fields,
        g.rect,
        text_size r.result g.result,
        i,
        e,
        z.0,
      ))

  run_bytes_lem : (rs : List (ListRecord R)) → AllInLayout f rs → length (write_records f rs) ≤ 165100 * length rs
  unfolding write_records AllInLayout
  run_bytes_lem [] g = omega arith
  run_bytes_lem (r ∷ rs) g = omega (arith, length-append (write_record f r) (write_records f rs), record_size r g.0, run_bytes_lem rs g.1)

  pub few_small : (rs : List (ListRecord R)) → length rs ≤ 512 → AllInLayout f rs → length (write_records f rs) ≤ 84531200
  few_small rs h g = omega (arith, run_bytes_lem rs g)
