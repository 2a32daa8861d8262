-- What is left after the parts of the layout, by what was read from the front. Assumes nothing.
use Rattle.std.proofs.Common.{ℕ, zero, suc, ◌+◌, ◌*◌, ◌-◌, ◌<◌, ◌≤◌, ◌≡◌, refl, sym, ap, ◌∙◌, List, [], ◌∷◌, ◌++◌, length, get_or, take, drop, Option, None, Some, option_copied, Bor, arith}
use Rattle.std.proofs.lemmas.List.{take_rest}
use Rattle.std.proofs.Math.Seq.{take-length}
use Rattle.list_read.specs.Read.{Got, outside, got, and_then, read_byte, read_below, read16, read32, read_many}
use Rattle.list_read.specs.Layout.{Item, any_bytes, f32s, enum, walk_item, walk_items, walk_field, exactly}
use Rattle.list_read.specs.Records.{read_input, read_inputs}
use Rattle.list_read.specs.Forms.{ReferenceIn, form_of}
use Rattle.list_read.specs.declared.ListForm.{ListForm}
use Rattle.list_read.specs.declared.ListForm.TheVariants.{Two}
use Rattle.tree.specs.Input.{InputOf}
use Rattle.bits.specs.Bytes.{bytes_from}
use Rattle.bits.proofs.Runs.{bytes_from_part}
use Rattle.std.specs.List.{IsSplitAt, slice_index}
use Rattle.std.specs.Slice.{IsGetRangeResult}
use Rattle.list_layout.specs.After.{rest_of, onward, after_bytes, after_item, after_items, after_field, after_reference, after_inputs}

-- what is read does not matter for what is left
pub rest_then : {A B : Type 0} (g : Got A) (f : A → B) → rest_of (and_then g (λ a r. got (f a) r)) ≡ rest_of g
rest_then outside f = refl
rest_then (got a r) f = refl

-- runs of bytes

pub run_is : (n : ℕ) (xs : List ℕ) → n ≤ length xs → read_many read_byte n xs ≡ got (take n xs) (drop n xs)
unfolding read_many
run_is zero xs h = refl
run_is (suc n) [] h = absurd (omega arith)
run_is (suc n) (x ∷ xs) h = rw (run_is n xs (omega arith)) refl

pub run_outside : (n : ℕ) (xs : List ℕ) → length xs < n → read_many read_byte n xs ≡ outside
unfolding read_many
run_outside zero xs h = absurd (omega arith)
run_outside (suc n) [] h = refl
run_outside (suc n) (x ∷ xs) h = rw (run_outside n xs (omega arith))

-- what `s.get(n..)` gives is what is left after n bytes
pub part_is : (n : ℕ) (xs : List ℕ) (r : Option (Bor (List ℕ))) → IsGetRangeResult xs n (length xs) r → option_copied r ≡ after_bytes n (Some xs)
part_is n xs None h =
    let short : length xs < n = omega (arith, h.0) in
    rw (run_outside n xs short) refl
part_is n xs (Some part) h =
    let all : take (length xs - n) (drop n xs) ≡ drop n xs = take_rest xs n in
    rw (run_is n xs h.0.0) (ap (λ (ys : List ℕ). Some ys) (h.0.2 ∙ all))

-- bytes of any value are passed, and nothing is asked of them
pub any_is : (n : ℕ) (xs : List ℕ) → after_bytes n (Some xs) ≡ after_item (any_bytes n) (Some xs)
unfolding walk_item
any_is n xs = sym (rest_then (read_many read_byte n xs) (λ bs. []))

-- a number is four bytes

run_cons : (n x : ℕ) (r : List ℕ) → rest_of (read_many read_byte (suc n) (x ∷ r)) ≡ rest_of (read_many read_byte n r)
unfolding read_many
run_cons n x r = rest_then (read_many read_byte n r) (λ bs. x ∷ bs)

word_run : (n : ℕ) → ((xs : List ℕ) → rest_of (read_many read_byte (4 * n) xs) ≡ rest_of (read_many read32 n xs)) → (xs : List ℕ) → rest_of (read_many read_byte (suc (suc (suc (suc (4 * n))))) xs) ≡ rest_of (read_many read32 (suc n) xs)
unfolding read_many read32
word_run n ih [] = refl
word_run n ih (a ∷ []) = refl
word_run n ih (a ∷ b ∷ []) = refl
word_run n ih (a ∷ b ∷ c ∷ []) = refl
word_run n ih (a ∷ b ∷ c ∷ d ∷ r) =
    run_cons (suc (suc (suc (4 * n)))) a (b ∷ c ∷ d ∷ r)
    ∙ run_cons (suc (suc (4 * n))) b (c ∷ d ∷ r)
    ∙ run_cons (suc (4 * n)) c (d ∷ r)
    ∙ run_cons (4 * n) d r
    ∙ ih r
    ∙ sym (rest_then (read_many read32 n r) (λ ns. (a + b * 256 + c * 65536 + d * 16777216) ∷ ns))

words_run : (n : ℕ) (xs : List ℕ) → rest_of (read_many read_byte (4 * n) xs) ≡ rest_of (read_many read32 n xs)
unfolding read_many
words_run zero xs = refl
words_run (suc n) xs =
    let e : 4 * suc n ≡ suc (suc (suc (suc (4 * n)))) = omega arith in
    ap (λ (k : ℕ). rest_of (read_many read_byte k xs)) e ∙ word_run n (words_run n) xs

pub f32s_are : (n : ℕ) (xs : List ℕ) → after_bytes (4 * n) (Some xs) ≡ after_item (f32s n) (Some xs)
unfolding walk_item
f32s_are n xs = words_run n xs

-- the cases of an enum

items_none : (is : List Item) → after_items is None ≡ None
items_none [] = refl
items_none (i ∷ is) = items_none is

items_then : (is : List Item) (g : Got (List ℕ)) → ((r : List ℕ) → after_items is (Some r) ≡ rest_of (walk_items is r)) → after_items is (rest_of g) ≡ rest_of (and_then g (λ ns r. and_then (walk_items is r) (λ ms r'. got (ns ++ ms) r')))
items_then is outside h = items_none is
items_then is (got ns r) h = h r ∙ sym (rest_then (walk_items is r) (λ ms. ns ++ ms))

items_after : (is : List Item) (xs : List ℕ) → after_items is (Some xs) ≡ rest_of (walk_items is xs)
unfolding walk_items
items_after [] xs = refl
items_after (i ∷ is) xs = items_then is (walk_item i xs) (items_after is)

module _ (cases : List (List Item)) (xs : List ℕ) where
  pub no_case : outside ≡ read_below (length cases) xs → None ≡ after_field (enum cases) (Some xs)
  unfolding walk_field
  no_case e = rw (← e)

  -- behind the place k of a case stand the items of that case
  pub case_is : (k : ℕ) (r : List ℕ) → got k r ≡ read_below (length cases) xs → after_items (get_or cases k []) (Some r) ≡ after_field (enum cases) (Some xs)
  unfolding walk_field
  case_is k r e = rw (← e) (items_after (get_or cases k []) r)

  module _ {k : ℕ} {r : List ℕ} (e : got k r ≡ read_below (length cases) xs) {o : Option (List ℕ)} where
    pub case_of : (items : List Item) → get_or cases k [] ≡ items → o ≡ after_items items (Some r) → o ≡ after_field (enum cases) (Some xs)
    case_of items d h = h ∙ ap (λ (is : List Item). after_items is (Some r)) (sym d) ∙ case_is k r e

    pub case_at : (j : ℕ) → k ≡ j → o ≡ after_items (get_or cases j []) (Some r) → o ≡ after_field (enum cases) (Some xs)
    case_at j i h = case_of (get_or cases j []) (ap (λ (n : ℕ). get_or cases n []) i) h

-- of two cases with the same items
pub same_items : (first : List Item) (items : List Item) (rest : List (List Item)) (k : ℕ) → 1 ≤ k → k < 3 → get_or (first ∷ items ∷ items ∷ rest) k [] ≡ items
same_items first items rest zero low high = absurd (omega arith)
same_items first items rest (suc zero) low high = refl
same_items first items rest (suc (suc zero)) low high = refl
same_items first items rest (suc (suc (suc k))) low high = absurd (omega arith)

-- a u16, a text and a reference

pub read16_short : (xs : List ℕ) → length xs < 2 → read16 xs ≡ outside
unfolding read16
read16_short [] h = refl
read16_short (a ∷ []) h = refl
read16_short (a ∷ b ∷ xs) h = absurd (omega arith)

-- the two bytes at the front, as `split_first_chunk` gives them
pub read16_is : (xs front rest : List ℕ) (k : ℕ) → front ≡ take 2 xs → rest ≡ drop 2 xs → 2 ≤ length xs → k ≡ slice_index front 0 + slice_index front 1 * 256 → got k rest ≡ read16 xs
unfolding read16
read16_is [] front rest k f r h e = absurd (omega arith)
read16_is (a ∷ []) front rest k f r h e = absurd (omega arith)
read16_is (a ∷ b ∷ xs) front rest k f r h e = rw (e, f, r) refl

pub word_left : (xs : List ℕ) → after_bytes 2 (Some xs) ≡ after_reference Two (Some xs)
unfolding read_many read16
word_left [] = refl
word_left (a ∷ []) = refl
word_left (a ∷ b ∷ xs) = refl

-- a text is cut off behind its count, and `is_utf8` tests all of it

pub split_is : (n : ℕ) (xs text left : List ℕ) → IsSplitAt xs n text left → read_many read_byte n xs ≡ got text left
split_is n xs text left h = run_is n xs h.0 ∙ rw (h.1, h.2) refl

pub whole_run : (n : ℕ) (text : List ℕ) → length text ≡ n → bytes_from text 0 n ≡ text
whole_run n text h = bytes_from_part text 0 n (omega (arith, h)) ∙ sym (ap (λ (k : ℕ). take k text) h) ∙ take-length text

pub ruleset text_parts = (run_outside, split_is, whole_run)

-- one input and n more
pub inputs_step : (f : ListForm) (n : ℕ) (xs : List ℕ) → after_inputs f (exactly (suc n)) (Some xs) ≡ after_inputs f (exactly n) (rest_of (read_input (form_of f) xs))
unfolding read_inputs read_many
inputs_step f n xs = by (read_input (form_of f) xs)
  where
    by : (g : Got (InputOf (ReferenceIn f))) → rest_of (and_then g (λ a r. and_then (read_many (read_input (form_of f)) n r) (λ as' r'. got (a ∷ as') r'))) ≡ onward (λ xs. rest_of (read_many (read_input (form_of f)) n xs)) (rest_of g)
    by outside = refl
    by (got a r) = rest_then (read_many (read_input (form_of f)) n r) (λ is. a ∷ is)
