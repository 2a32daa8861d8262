-- What `taken` says, in words: true exactly if one of the first n records has an explicit result that is `result` and the digits. For any digits, in fact
-- for any name. Assumes nothing.
use mathlib.Core.Path.{◌≡◌, refl, sym, ap, ◌∙◌}
use mathlib.Core.Bool.{Bool, true, false}
use mathlib.Core.List.{List, [], ◌∷◌, ◌++◌}
use Prim.Native.Nat.{ℕ, zero, suc, ◌<◌}
use native.Mathlib.Omega.{arith}
use lib.ListN.{length, get_or}
use Rattle.std.proofs.Math.Bool.{or-true}
use Rattle.std.proofs.Math.Seq.{take-length}
use Rattle.std.proofs.lemmas.Bool.{both_ways}
use Rattle.bits.proofs.Sameness.{same_refl, same_eq}
use Rattle.tree.specs.Input.{Name}
use Rattle.naming.specs.Names.{w_result, member, Label, Own, Made, own_names}
use Rattle.naming.specs.Agreement.{is_own}
use Rattle.results.specs.Means.{entry_is, labels_is, NameTable, EarlierOwn}
use Rattle.results.specs.declared.table.Names.{Names}
use Rattle.results.specs.Table.{labels_in}
use Rattle.results.proofs.Tables.{own_cons}

own_is : (t : Name) (l : Label) → is_own t l ≡ true → l ≡ Own t
own_is t (Own u) e = ap Own (sym (same_eq t u e))
own_is t (Made k) e = absurd (both_ways false refl e)

module _ (s : List ℕ) (t : Name) where
  found : (names : List ℕ) (n : ℕ) → member t (own_names (labels_is s names n)) ≡ true → EarlierOwn s names n t
  unfolding member own_names
  found names zero e = absurd (both_ways false refl e)
  found [] (suc n) e = absurd (both_ways false refl e)
  found (x ∷ xs) (suc n) e = go (is_own t (entry_is s x)) refl (found xs n)
    where
      go : (b : Bool) → is_own t (entry_is s x) ≡ b → (member t (own_names (labels_is s xs n)) ≡ true → EarlierOwn s xs n t) → EarlierOwn s (x ∷ xs) (suc n) t
      go true q ih = record { place = 0; earlier = omega arith; own = own_is t (entry_is s x) q }
      go false q ih =
          let r = ih (rw q at (sym (own_cons t (entry_is s x) (labels_is s xs n)) ∙ e)) in
          record { place = suc r.place; earlier = omega (arith, r.earlier); own = r.own }

  there : (names : List ℕ) (n j : ℕ) → j < n → j < length names → entry_is s (get_or names j 0) ≡ Own t → member t (own_names (labels_is s names n)) ≡ true
  there names zero j h l e = absurd (omega arith)
  there [] (suc n) j h l e = absurd (omega arith)
  there (x ∷ xs) (suc n) zero h l e = own_cons t (entry_is s x) (labels_is s xs n) ∙ rw (e, same_refl t)
  there (x ∷ xs) (suc n) (suc j) h l e =
      own_cons t (entry_is s x) (labels_is s xs n) ∙ rw (there xs n j (omega arith) (omega arith) e) (or-true (is_own t (entry_is s x)))

-- The search for `result` and any bytes ds, among the first n entries of a table

module _ (s names : List ℕ) (n : ℕ) (ds : List ℕ) (r : Bool) (says : r ≡ member (w_result ++ ds) (own_names (labels_is s names n))) where
  pub taken_found : r ≡ true → EarlierOwn s names n (w_result ++ ds)
  taken_found e = found s (w_result ++ ds) names n (sym says ∙ e)

  pub found_taken : NameTable s names n → EarlierOwn s names n (w_result ++ ds) → r ≡ true
  found_taken t x = says ∙ there s (w_result ++ ds) names n x.place x.earlier (omega (arith, x.earlier, t.few, t.long)) x.own

-- The same by the contract of `taken`: among all entries that it is given

module _ (names : Names) (ds : List ℕ) (r : Bool) (says : r ≡ member (w_result ++ ds) (own_names (labels_in names))) where
  of_all : r ≡ member (w_result ++ ds) (own_names (labels_is names.bytes.now names.entries.now (length names.entries.now)))
  of_all = rw (take-length names.entries.now) says

  pub taken_found_in : r ≡ true → EarlierOwn names.bytes.now names.entries.now (length names.entries.now) (w_result ++ ds)
  taken_found_in = taken_found names.bytes.now names.entries.now (length names.entries.now) ds r of_all

  pub found_taken_in : EarlierOwn names.bytes.now names.entries.now (length names.entries.now) (w_result ++ ds) → r ≡ true
  found_taken_in x = of_all ∙ there names.bytes.now (w_result ++ ds) names.entries.now (length names.entries.now) x.place x.earlier x.earlier x.own
