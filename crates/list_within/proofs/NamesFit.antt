-- Names fit: a made name is ASCII and short, and what an input resolves to is a text of the sheet or an earlier name. Assumes nothing.
use Rattle.std.proofs.lemmas.Bool.{and_from}
use Rattle.std.specs.Prelude.{None, Option, Some}
use Prim.Native.Nat.{ℕ, zero, suc, ◌+◌, ◌*◌, ◌/◌, ◌%◌, ◌≤◌, ◌<◌}
use native.Mathlib.Omega.{arith}
use mathlib.Core.Path.{◌≡◌, refl, sym, ap, ◌∙◌, subst}
use mathlib.Core.Bool.{Bool, true, false, cond}
use mathlib.Core.List.{List, [], ◌∷◌, ◌++◌, map}
use lib.Dec.{leb, ltb}
use lib.ListN.{length, length-append}
use borrow.Author.Tests.{le-leb, lt-ltb, ltb-true, ltb-false}
use Rattle.bits.specs.Bytes.{same}
use Rattle.bits.specs.Utf8.{ByteRange, utf8_table, utf8_starting, utf8_step, utf8_run, utf8_whole, utf8}
use Rattle.bits.proofs.WellFormed.{row_hit}
use Rattle.tree.specs.Input as tree
use Rattle.naming.specs.Names.{member, digits, digits_up_to, w_result, made_name, first_free, Label, name_of, own_names, Results, start, names_so_far, next_free, label, counter_after, after}
use Rattle.naming.specs.Inputs.{w_source_graphic, w_source_alpha, unsupported_inputs, parse_in, last_of, previous, settled, resolve}
use Rattle.naming.proofs.Naming.{free_at_most}
use Rattle.naming.proofs.Made.{own_few}
use Rattle.num.proofs.Each.{choose}
use Rattle.tree.specs.Input.{Name}
use Rattle.list_read.specs.Records.{form1, text_fits}
use Rattle.list_read.specs.Write.{input_fits, inputs_fit}
use Rattle.list_within.specs.Fitting.{OptionFit, OptionsFit}

-- ---- ASCII is UTF-8

abbrev Small : List ℕ → Type 0
Small [] = Unit {0}
Small (b ∷ t) = (b ≤ 127) × Small t

run_small : (t : List ℕ) → Small t → utf8_run (Some []) t ≡ Some []
unfolding utf8_run utf8_step
run_small [] h = refl
run_small (b ∷ t) h =
    let e : utf8_starting b utf8_table ≡ Some [] = row_hit b [] _ 0 127 (omega arith) h.0 in
    ap (λ (q : Option (List ByteRange)). utf8_run q t) e ∙ run_small t h.1

small_utf8 : (t : List ℕ) → Small t → utf8 t ≡ true
unfolding utf8
small_utf8 t h = ap utf8_whole (run_small t h)

small_append : (xs ys : List ℕ) → Small xs → Small ys → Small (xs ++ ys)
small_append [] ys h k = k
small_append (x ∷ xs) ys h k = (h.0, small_append xs ys h.1 k)

-- ---- digits

digits_small : (f n : ℕ) → n ≤ f → Small (digits_up_to f n)
unfolding digits_up_to
digits_small zero n h = (omega arith, tt)
digits_small (suc f) n h = go (ltb n 10) refl (digits_small f (n / 10))
  where
    go : (b : Bool) → ltb n 10 ≡ b → (n / 10 ≤ f → Small (digits_up_to f (n / 10))) → Small (cond b ((48 + n) ∷ []) (digits_up_to f (n / 10) ++ ((48 + n % 10) ∷ [])))
    go true e r = let l : n < 10 = ltb-true n 10 e in (omega arith, tt)
    go false e r = let l : 10 ≤ n = ltb-false n 10 e in small_append (digits_up_to f (n / 10)) ((48 + n % 10) ∷ []) (r (omega arith)) (omega arith, tt)

unfoldable tens : ℕ → ℕ
tens zero = 1
tens (suc k) = 10 * tens k

digits_few : (f n k : ℕ) → n < tens (suc k) → length (digits_up_to f n) ≤ suc k
unfolding digits_up_to tens
digits_few zero n k h = omega arith
digits_few (suc f) n zero h = let l : n < 10 = omega arith in rw (lt-ltb n 10 l) (omega arith)
digits_few (suc f) n (suc k) h = go (ltb n 10) (digits_few f (n / 10) k)
  where
    go : (b : Bool) → (n / 10 < tens (suc k) → length (digits_up_to f (n / 10)) ≤ suc k) → length (cond b ((48 + n) ∷ []) (digits_up_to f (n / 10) ++ ((48 + n % 10) ∷ []))) ≤ suc (suc k)
    go true r = omega arith
    go false r =
        let l : length (digits_up_to f (n / 10)) ≤ suc k = r (omega arith) in
        subst (λ (m : ℕ). m ≤ suc (suc k)) (sym (length-append (digits_up_to f (n / 10)) ((48 + n % 10) ∷ []))) (omega arith)

-- ---- a made name

result_small : Small w_result
result_small = (omega arith, (omega arith, (omega arith, (omega arith, (omega arith, (omega arith, tt))))))

made_fits : (k : ℕ) → k < 10000000 → text_fits (made_name k) ≡ true
unfolding made_name digits tens
made_fits k h =
    let few : length (digits_up_to k k) ≤ 7 = digits_few k k 6 h in
    let l : length (w_result ++ digits_up_to k k) ≤ 255 = subst (λ (m : ℕ). m ≤ 255) (sym (length-append w_result (digits_up_to k k))) (omega arith) in
    and_from (leb (length (w_result ++ digits_up_to k k)) 255) (utf8 (w_result ++ digits_up_to k k))
    (le-leb (length (w_result ++ digits_up_to k k)) 255 l)
    (small_utf8 (w_result ++ digits_up_to k k) (small_append w_result (digits_up_to k k) result_small (digits_small k k (omega arith))))

-- ---- the names so far

abbrev pub NamesFit : List Name → Type 0
NamesFit [] = Unit {0}
NamesFit (n ∷ ns) = (text_fits n ≡ true) × NamesFit ns

-- after i children
pub record StateFit (i : ℕ) (st : Results) : Type 0 where
  pub names : NamesFit (names_so_far st)
  pub count : length st.labels ≡ i
  pub low : st.idx ≤ 1 + 513 * i

pub start_fit : StateFit 0 start
start_fit = record { names = tt; count = refl; low = omega arith }

names_snoc : (ls : List Label) (l : Label) → NamesFit (map name_of ls) → text_fits (name_of l) ≡ true → NamesFit (map name_of (ls ++ (l ∷ [])))
names_snoc [] l h k = (k, tt)
names_snoc (m ∷ ls) l h k = (h.0, names_snoc ls l h.1 k)

module _ (i : ℕ) (st : Results) (f : StateFit i st) (few : i < 512) where
  next_low : next_free st ≤ 1 + 513 * i + i
  next_low =
      let a : first_free (own_names st.labels) st.idx ≤ st.idx + length (own_names st.labels) = free_at_most (own_names st.labels) st.idx in
      let b : length (own_names st.labels) ≤ length st.labels = own_few st.labels in
      omega (arith, a, b, f.low, f.count)

  pub label_fit : (o : Option Name) → OptionFit o → text_fits (name_of (label st o)) ≡ true
  label_fit (Some t) h = h
  label_fit None h = made_fits (next_free st) (omega (arith, next_low, few))

  counted_low : (o : Option Name) → counter_after st o ≤ 1 + 513 * suc i
  counted_low (Some t) = omega (arith, f.low)
  counted_low None = omega (arith, next_low, few)

  pub after_fit : (o : Option Name) → OptionFit o → StateFit (suc i) (after st o)
  after_fit o h =
      record {
        names = names_snoc st.labels (label st o) f.names (label_fit o h);
        count = length-append st.labels (label st o ∷ []) ∙ omega (arith, f.count);
        low = counted_low o;
      }

-- ---- what an input resolves to

abbrev InputFit : tree.Input → Type 0
InputFit x = input_fits form1 x ≡ true

last_fit : (n : Name) (ns : List Name) → text_fits n ≡ true → NamesFit ns → text_fits (last_of n ns) ≡ true
last_fit n [] h k = h
last_fit n (m ∷ ms) h k = last_fit m ms k.0 k.1

previous_fit : (ns : List Name) → NamesFit ns → InputFit (previous ns)
previous_fit [] h = refl
previous_fit (n ∷ ns) h = last_fit n ns h.0 h.1

settled_fit : (ns : List Name) (x : tree.Input) → NamesFit ns → InputFit x → InputFit (settled ns x)
settled_fit ns tree.SourceGraphic h k = refl
settled_fit ns tree.SourceAlpha h k = refl
settled_fit ns (tree.Reference t) h k = choose InputFit (member t ns) (tree.Reference t) (previous ns) k (previous_fit ns h)

parse_fit : (t : Name) → text_fits t ≡ true → InputFit (parse_in t)
unfolding parse_in
parse_fit t h =
    choose InputFit (same t w_source_graphic) tree.SourceGraphic _ refl
    (choose InputFit (same t w_source_alpha) tree.SourceAlpha _ refl
    (choose InputFit (member t unsupported_inputs) tree.SourceGraphic (tree.Reference t) refl h))

resolve_fit : (ns : List Name) → NamesFit ns → (o : Option Name) → OptionFit o → InputFit (resolve ns o)
unfolding resolve
resolve_fit ns h None k = previous_fit ns h
resolve_fit ns h (Some t) k = settled_fit ns (parse_in t) h (parse_fit t k)

pub inputs_fit_lem : (ns : List Name) → NamesFit ns → (os : List (Option Name)) → OptionsFit os → inputs_fit form1 (map (resolve ns) os) ≡ true
unfolding inputs_fit
inputs_fit_lem ns h [] k = refl
inputs_fit_lem ns h (o ∷ os) k =
    and_from (input_fits form1 (resolve ns o)) (inputs_fit form1 (map (resolve ns) os)) (resolve_fit ns h o k.0) (inputs_fit_lem ns h os k.1)
