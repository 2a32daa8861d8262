-- The layout of sheets, and the tests of typed lists, bound what each value is. Assumes nothing.
use Rattle.std.specs.Prelude.{None, Option, Some}
use Prim.Native.Nat.{ℕ, zero, suc, ◌+◌, ◌/◌, ◌≤◌, ◌<◌, min}
use native.Mathlib.Omega.{arith}
use mathlib.Core.Path.{◌≡◌, refl, sym, ap, subst}
use mathlib.Core.List.{List, [], ◌∷◌, map}
use lib.Dec.{T, eqb}
use lib.ListN.{length, length-map, get_or}
use lib.Ieee.{Float, binary32, fits}
use lib.Ieee.Fits.{and_i}
use lib.Ieee.Bits.{of_bits-fits}
use Rattle.bits.specs.Bytes.{le32, bytes_from}
use Rattle.bits.proofs.Runs.{length-bytes_from}
use Rattle.num.specs.Constants.{plus_zero}
use Rattle.num.specs.Numbers.{Each}
use Rattle.num.proofs.Finite.{narrowed_fits}
use Rattle.decimal.specs.Grammar.{TypedItem, item_of}
use Rattle.decimal.specs.Limits.{in_limits}
use Rattle.decimal.specs.Value.{nearest_double, item_value, item_value_in}
use Rattle.number_list.specs.Text.{parts}
use Rattle.number_list.specs.Outcome.{words_in, word_value, typed_numbers}
use Rattle.number_list.proofs.Passing.{passing}
use Rattle.num.proofs.Each.{choose}
use Rattle.sheet_fields.specs.Fields.{kind_typed, size_text_most, size_number, size_numbers_most}
use Rattle.svgtree.specs.Values.{text_value}
use Rattle.svgtree.specs.Readers.{value_under}
use Rattle.svgtree.specs.Parse.{single, singles_from, value_at, attribute_at, attribute_kind_at, attribute_length_at, value_place, places_of, offset_of, node_from, node_at}
use Rattle.field_tests.specs.Tests.{all}
use Rattle.sheet_layout.specs.Records.{node_record_at}
use Rattle.sheet_layout.specs.Layout.{node_record_ok}
use Rattle.sheet_accepted.specs.Nodes.{AcceptedValue}
use Rattle.sheet_accepted.proofs.ByKind.{InKind, unreadable, text, number, numbers, plain_length_value, color, tries, typed, InKindAt, record_kinds}
use Rattle.sheet_accepted.proofs.Texts.{ReadText, ReadTextAt}

singles_fit : (s : List ℕ) (at n : ℕ) → T (all (fits binary32) (singles_from s at n))
unfolding singles_from all
singles_fit s at zero = tt
singles_fit s at (suc n) =
    and_i (fits binary32 (single s at)) (all (fits binary32) (singles_from s (at + size_number) n)) (of_bits-fits binary32 (le32 s at)) (singles_fit s (at + size_number) n)

pub singles_length : (s : List ℕ) (at n : ℕ) → length (singles_from s at n) ≡ n
unfolding singles_from
singles_length s at zero = refl
singles_length s at (suc n) = ap suc (singles_length s (at + size_number) n)

-- the numbers of a typed list are f32
item_value_fits : (o : Option TypedItem) → T (fits binary32 (item_value_in o))
unfolding item_value_in item_value
item_value_fits None = of_bits-fits binary32 0
item_value_fits (Some i) = choose (λ (x : Float). T (fits binary32 x)) (in_limits i) (item_value i) plus_zero (narrowed_fits (nearest_double i)) (of_bits-fits binary32 0)

words_fit : (ws : List (List ℕ)) → T (all (fits binary32) (map word_value ws))
unfolding all
words_fit [] = tt
words_fit (w ∷ ws) = and_i (fits binary32 (word_value w)) (all (fits binary32) (map word_value ws)) (item_value_fits (item_of w)) (words_fit ws)

pub typed_fit : (t : List ℕ) → T (all (fits binary32) (typed_numbers t))
typed_fit t = words_fit (words_in (parts t))

-- and not more than 1,024, where the text is read
text_few : (t : List ℕ) → ReadText t → length (typed_numbers t) ≤ size_numbers_most
text_few t r =
    let p = passing t r.listed r.outcome in
    omega (arith, ap length p.read, ap length p.worth, length-map p.items item_value, p.few)

-- a text that fits is not cut
pub uncut : (s : List ℕ) (at len : ℕ) → len ≤ size_text_most → bytes_from s at (min len size_text_most) ≡ bytes_from s at len
uncut s at len h =
    let e : min len size_text_most ≡ len = omega arith in
    ap (bytes_from s at) e

module _ (s : List ℕ) (bytes : (i : ℕ) → get_or s i 0 < 256) where
  value_fit : (kind at len : ℕ) → InKind s at len kind → (kind ≡ kind_typed → ReadText (bytes_from s at len)) → AcceptedValue (value_at s kind at len)
  unfolding value_at
  value_fit kind at len (unreadable e) r = tt
  value_fit kind at len (text l u) r =
      subst (λ (t : List ℕ). AcceptedValue (text_value t)) (sym (uncut s at len l)) (subst (λ (n : ℕ). n ≤ size_text_most) (sym (length-bytes_from s at len)) l, u)
  value_fit kind at len (number e) r = of_bits-fits binary32 (le32 s at)
  value_fit kind at len (numbers m l) r =
      (singles_fit s at (len / size_number), subst (λ (n : ℕ). n ≤ size_numbers_most) (sym (singles_length s at (len / size_number))) l)
  value_fit kind at len (plain_length_value e) r = tt
  value_fit kind at len (color e) r = let b : get_or s (at + 3) 0 < 256 = bytes (at + 3) in omega arith
  value_fit kind at len (tries e) r = tt
  value_fit kind at len (typed l) r = (typed_fit (bytes_from s at len), text_few (bytes_from s at len) (r refl))

  attributes_fit : (ps : List ℕ) → Each (InKindAt s) ps → Each (ReadTextAt s) ps → (id : ℕ) → AcceptedValue (value_under id (map (attribute_at s) ps))
  unfolding value_under attribute_at
  attributes_fit [] h r id = tt
  attributes_fit (p ∷ ps) h r id =
      choose AcceptedValue (eqb (attribute_at s p).id id) (attribute_at s p).value (value_under id (map (attribute_at s) ps))
      (value_fit (attribute_kind_at s p) (value_place p) (attribute_length_at s p) h.0 r.0)
      (attributes_fit ps h.1 r.1 id)

  pub record_fit : (i : ℕ) → T (node_record_ok (node_record_at s i)) → Each (ReadTextAt s) (places_of s (offset_of s i)) → (id : ℕ) → AcceptedValue (value_under id (node_at s i).attributes)
  unfolding node_from
  record_fit i h r = attributes_fit (places_of s (offset_of s i)) (record_kinds s i h) r
