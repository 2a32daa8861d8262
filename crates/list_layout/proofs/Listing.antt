-- A list, by its count, its pairs and its records; bytes that are too many for one are none. Assumes nothing.
use Rattle.std.proofs.Common.{ℕ, suc, ◌+◌, ◌*◌, ◌-◌, ◌/◌, ◌<◌, ◌≤◌, ◌≡◌, ◌≢◌, refl, sym, ap, ◌∙◌, List, [], ◌∷◌, ◌++◌, Bool, true, false, cond, length, get_or, take, drop, le-leb, eq-eqb, ne_eqb, leb, eqb, ◌==◌, length-append, arith}
use Rattle.std.proofs.lemmas.Bool.{lt-leb}
use Rattle.std.proofs.lemmas.List.{take_rest}
use Rattle.std.proofs.Math.Decide.{dec_le}
use Rattle.bits.specs.Bytes.{bytes_from, le32}
use Rattle.bits.proofs.Runs.{bytes_from_step}
use Rattle.std.specs.List.{IsSplitAt}
use Rattle.list_read.specs.Read.{Got, outside, got, and_then, only_if, read_byte, read16, read32, read_many}
use Rattle.list_read.specs.Records.{Form, ListRecord, read_record}
use Rattle.list_read.specs.Forms.{form2, form_of}
use Rattle.list_read.specs.Lists.{read_opening, read_records, read_counted, read_list}
use Rattle.list_layout.specs.After.{is_got, record_in_layout, records_in_layout, counted_in_layout, in_layout}
use Rattle.list_read.specs.declared.ListForm.{ListForm}
use Rattle.list_read.specs.declared.ListForm.TheVariants.{One, Two}
use Rattle.list_read.proofs.Forth.{Holds, AllBytes}
use Rattle.list_read.proofs.Forms.{Lawful, lawful}
use Rattle.list_read.proofs.Sizes.{few_small}
use Rattle.list_read.proofs.ListBack.{length_list}
use Rattle.list_read.proofs.ListForth.{ReadList, list_forth}
use Rattle.list_layout.proofs.Walking.{run_is, run_outside}

-- a number at a place, for crate `twins`
pub read32_at : (s : List ℕ) (p k : ℕ) → 4 ≤ k → read32 (bytes_from s p k) ≡ got (le32 s p) (bytes_from s (p + 4) (k - 4))
unfolding read32 le32
read32_at s p k h =
    let a : 0 < k = omega arith in
    let b : 0 < k - 1 = omega arith in
    let c : 0 < k - 1 - 1 = omega arith in
    let d : 0 < k - 1 - 1 - 1 = omega arith in
    let e₄ : p + 1 + 1 + 1 + 1 ≡ p + 4 = omega arith in
    let e₃ : p + 1 + 1 + 1 ≡ p + 3 = omega arith in
    let e₂ : p + 1 + 1 ≡ p + 2 = omega arith in
    let m : k - 1 - 1 - 1 - 1 ≡ k - 4 = omega arith in
    rw (bytes_from_step s p k a, bytes_from_step s (p + 1) (k - 1) b, bytes_from_step s (p + 1 + 1) (k - 1 - 1) c, bytes_from_step s (p + 1 + 1 + 1) (k - 1 - 1 - 1) d, m, e₄, e₃, e₂)

-- the records, by their first pair

both : {A B : Type 0} (g : Got A) (h : Got B) (f : A → B → List ℕ → Got B) → ((a : A) (b : B) (r : List ℕ) → is_got (f a b r) ≡ true) → is_got (and_then g (λ a r. and_then h (λ b r'. f a b r'))) ≡ cond (is_got g) (is_got h) false
both outside h f k = refl
both (got a r) outside f k = refl
both (got a r) (got b r') f k = k a b r'

is_only_if : {A : Type 0} (b : Bool) (g : Got A) → is_got (only_if b g) ≡ cond b (is_got g) false
is_only_if true g = refl
is_only_if false g = refl

-- a pair of offset and length, which is eight bytes
pair_is : {A : Type 0} (at : ℕ) (p ps : List ℕ) (f : ℕ → List ℕ → Got A) → length p ≡ 8
    → and_then (read32 (p ++ ps)) (λ offset r. only_if (eqb offset at) (and_then (read32 r) (λ size r'. f size r'))) ≡ only_if (eqb (le32 p 0) at) (f (le32 p 4) ps)
unfolding read32 le32
pair_is at (a ∷ b ∷ c ∷ d ∷ e ∷ g ∷ i ∷ j ∷ []) ps f h = refl
pair_is at [] ps f h = absurd (omega arith)
pair_is at (a ∷ []) ps f h = absurd (omega arith)
pair_is at (a ∷ b ∷ []) ps f h = absurd (omega arith)
pair_is at (a ∷ b ∷ c ∷ []) ps f h = absurd (omega arith)
pair_is at (a ∷ b ∷ c ∷ d ∷ []) ps f h = absurd (omega arith)
pair_is at (a ∷ b ∷ c ∷ d ∷ e ∷ []) ps f h = absurd (omega arith)
pair_is at (a ∷ b ∷ c ∷ d ∷ e ∷ g ∷ []) ps f h = absurd (omega arith)
pair_is at (a ∷ b ∷ c ∷ d ∷ e ∷ g ∷ i ∷ []) ps f h = absurd (omega arith)
pair_is at (a ∷ b ∷ c ∷ d ∷ e ∷ g ∷ i ∷ j ∷ k ∷ r) ps f h = absurd (omega arith)

module _ (form : ListForm) (at : ℕ) where
  -- as many records as there are whole pairs
  abbrev pub paired : List ℕ → List ℕ → Bool
  paired ps xs = records_in_layout form (length ps / 8) at ps xs

  -- behind the last pair no byte is left
  pub paired_end : (ps xs : List ℕ) → length ps < 8 → paired ps xs ≡ (length xs == 0)
  unfolding records_in_layout read_records
  paired_end ps xs h =
      let none : length ps / 8 ≡ 0 = omega arith in
      rw none (by xs)
    where
      by : (ys : List ℕ) → is_got (read_records (form_of form) 0 at ps ys) ≡ (length ys == 0)
      by [] = refl
      by (y ∷ ys) = sym (ne_eqb (length (y ∷ ys)) 0 (λ e. omega arith))

module _ (form : ListForm) (at : ℕ) (p ps xs : List ℕ) (pair : length p ≡ 8) where
  abbrev size : ℕ
  size = le32 p 4

  -- one record and those behind it
  abbrev one_and_more : Bool
  one_and_more = cond (leb size (length xs)) (cond (record_in_layout form (take size xs)) (paired form (at + size) ps (drop size xs)) false) false

  paired_first : paired form at (p ++ ps) xs ≡ cond (eqb (le32 p 0) at) one_and_more false
  unfolding records_in_layout record_in_layout read_records
  paired_first =
      let count : length (p ++ ps) / 8 ≡ suc (length ps / 8) = omega (arith, length-append p ps, pair) in
      rw (count, pair_is at p ps (λ n r. and_then (read_many read_byte n xs) (λ ys rest. and_then (read_record (form_of form) ys) (λ one none'. and_then (read_records (form_of form) (length ps / 8) (at + n) r rest) (λ rs none''. got (one ∷ rs) [])))) pair) (is_only_if (eqb (le32 p 0) at) _ ∙ ap (λ (x : Bool). cond (eqb (le32 p 0) at) x false) more)
    where
      more : is_got (and_then (read_many read_byte size xs) (λ ys rest. and_then (read_record (form_of form) ys) (λ r none'. and_then (read_records (form_of form) (length ps / 8) (at + size) ps rest) (λ rs none''. got (r ∷ rs) [])))) ≡ one_and_more
      more =
          elim (dec_le size (length xs)) [
            | yes k ↦ rw (run_is size xs k, le-leb size (length xs) k)
                (both (read_record (form_of form) (take size xs)) (read_records (form_of form) (length ps / 8) (at + size) ps (drop size xs)) (λ r rs none. got (r ∷ rs) []) (λ r rs none. refl))
            | no k ↦ rw (run_outside size xs (omega arith), lt-leb size (length xs) (omega arith))
          ]

  pub paired_offset : le32 p 0 ≢ at → paired form at (p ++ ps) xs ≡ false
  paired_offset d = paired_first ∙ rw (ne_eqb (le32 p 0) at d)

  module _ (same : le32 p 0 ≡ at) where
    pub paired_size : length xs < size → paired form at (p ++ ps) xs ≡ false
    paired_size d = paired_first ∙ rw (eq-eqb (le32 p 0) at same, lt-leb size (length xs) d)

    module _ (fits : size ≤ length xs) where
      pub paired_outside : record_in_layout form (take size xs) ≡ false → paired form at (p ++ ps) xs ≡ false
      paired_outside r = paired_first ∙ rw (eq-eqb (le32 p 0) at same, le-leb size (length xs) fits, r)

      pub paired_next : record_in_layout form (take size xs) ≡ true → paired form at (p ++ ps) xs ≡ paired form (at + size) ps (drop size xs)
      paired_next r = paired_first ∙ rw (eq-eqb (le32 p 0) at same, le-leb size (length xs) fits, r)

pub ruleset paired_steps = (paired_offset, paired_size, paired_outside, paired_next, paired_end)

-- the pairs behind a count

module _ (form : ListForm) (before n : ℕ) (s r : List ℕ) (e : got n r ≡ read16 s) (few : n ≤ 512) where
  pub pairs_short : length r < 8 * n → counted_in_layout form before s ≡ false
  unfolding counted_in_layout read_counted
  pairs_short h = rw (← e, le-leb n 512 few, run_outside (8 * n) r h) refl

  pub pairs_in : (ps xs : List ℕ) → IsSplitAt r (8 * n) ps xs → counted_in_layout form before s ≡ paired form (before + 2 + 8 * n) ps xs
  unfolding counted_in_layout records_in_layout read_counted
  pairs_in ps xs h =
      let count : length ps / 8 ≡ n = omega (arith, h.3) in
      rw (← e, le-leb n 512 few, run_is (8 * n) r h.0, count, ← h.1, ← h.2) refl

-- form 1 begins with the count, form 2 with its two bytes

pub one_in : (s : List ℕ) → in_layout One s ≡ counted_in_layout One 0 s
unfolding in_layout counted_in_layout read_list read_opening
one_in s = refl

pub two_short : (s : List ℕ) → length s < 2 → in_layout Two s ≡ false
unfolding in_layout read_list read_opening
two_short [] h = refl
two_short (a ∷ []) h = by (eqb a 255)
  where
    by : (b : Bool) → is_got (and_then (only_if b outside) (λ (front : List ℕ) r. read_counted form2 2 r)) ≡ false
    by true = refl
    by false = refl
two_short (a ∷ b ∷ s) h = absurd (omega arith)

abbrev nothing : List ℕ → Got (List ℕ)
nothing r = got [] r

two_bytes : (a b : ℕ) (r : List ℕ) → in_layout Two (a ∷ b ∷ r) ≡ cond (eqb a 255) (cond (eqb b 255) (counted_in_layout Two 2 r) false) false
unfolding in_layout counted_in_layout read_list read_opening
two_bytes a b r = by (eqb a 255) (eqb b 255)
  where
    by : (i j : Bool) → is_got (and_then (only_if i (only_if j (nothing r))) (λ front r. read_counted form2 2 r)) ≡ cond i (cond j (is_got (read_counted form2 2 r)) false) false
    by true true = refl
    by true false = refl
    by false j = refl

pub two_first : (s : List ℕ) → get_or s 0 0 ≢ 255 → in_layout Two s ≡ false
two_first [] h = two_short [] (omega arith)
two_first (a ∷ []) h = two_short (a ∷ []) (omega arith)
two_first (a ∷ b ∷ r) h = two_bytes a b r ∙ rw (ne_eqb a 255 h)

pub two_second : (s : List ℕ) → get_or s 0 0 ≡ 255 → get_or s 1 0 ≢ 255 → in_layout Two s ≡ false
two_second [] i h = two_short [] (omega arith)
two_second (a ∷ []) i h = two_short (a ∷ []) (omega arith)
two_second (a ∷ b ∷ r) i h = two_bytes a b r ∙ rw (eq-eqb a 255 i, ne_eqb b 255 h)

pub two_in : (s : List ℕ) → 2 ≤ length s → get_or s 0 0 ≡ 255 → get_or s 1 0 ≡ 255 → in_layout Two s ≡ counted_in_layout Two 2 (take (length s - 2) (drop 2 s))
two_in [] h i j = absurd (omega arith)
two_in (a ∷ []) h i j = absurd (omega arith)
two_in (a ∷ b ∷ r) h i j =
    let behind : take (length (a ∷ b ∷ r) - 2) r ≡ r = take_rest (a ∷ b ∷ r) 2 in
    two_bytes a b r ∙ rw (eq-eqb a 255 i, eq-eqb b 255 j, behind)

pub ruleset openings = (one_in, two_short, two_first, two_second, two_in)

-- a list in the layout is not so long

large : {R : Type 0} (f : Form R) (law : Lawful f) (s : List ℕ) → 100000000 < length s → (g : Got (List (ListRecord R))) → Holds (ReadList f law s) g → is_got g ≡ false
large f law s long outside h = refl
large f law s long (got rs r) h = absurd (omega (arith, ap length h.same, length_list f rs, few_small f law rs h.inside.few h.inside.each, h.inside.few, law.short))

pub list_large : (form : ListForm) (s : List ℕ) → AllBytes s → 100000000 < length s → in_layout form s ≡ false
unfolding in_layout
list_large form s b h = large (form_of form) (lawful form) s h (read_list (form_of form) s) (list_forth (form_of form) (lawful form) s b)

pub all_bytes : (s : List ℕ) → ((i : ℕ) → get_or s i 0 < 256) → AllBytes s
unfolding AllBytes
all_bytes [] h = tt
all_bytes (x ∷ s) h = (h 0, all_bytes s (λ i. h (suc i)))
