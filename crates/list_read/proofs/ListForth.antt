-- A list that is read is what was written. Assumes nothing.
use Prim.Native.Nat.{ℕ, zero, suc, ◌+◌, ◌*◌}
use native.Mathlib.Omega.{arith}
use mathlib.Core.Path.{◌≡◌, refl, sym, ap, ◌∙◌, subst}
use mathlib.Core.List.{List, [], ◌∷◌, ◌++◌}
use borrow.Author.Tests.{eqb-true, leb-true}
use lib.Dec.{leb, eqb}
use lib.ListN.{length, length-append}
use Rattle.std.proofs.lemmas.List.{nil_from_length}
use Rattle.bits.specs.Bytes.{bytes16, bytes32}
use Rattle.list_read.specs.Read.{read_byte, read16, read32, read_many}
use Rattle.list_read.specs.Records.{Form, ListRecord, read_record}
use Rattle.list_read.specs.Write.{write_record, write_pairs, write_records, write_list, AllInLayout, ListInLayout}
use Rattle.list_read.specs.Lists.{read_opening, read_records, read_counted, read_list}
use Rattle.list_read.proofs.Forth.{Holds, holds_then, holds_only_if, AllBytes, Front, fronts, byte_forth, read16_forth, read32_forth, run_forth}
use Rattle.list_read.proofs.Forms.{Lawful, holds_map}
use Rattle.list_read.proofs.RecordForth.{Read, record_forth}

opening_forth : (bs xs : List ℕ) → AllBytes xs → Holds (λ none r. Front xs bs r) (read_opening bs xs)
unfolding read_opening
opening_forth [] xs h = record { split = refl; rest = h }
opening_forth (b ∷ bs) xs h =
    holds_then _ _ (read_byte xs) _ (byte_forth xs h)
    (λ a r p. holds_only_if _ (eqb a b) _
    (λ e. holds_map _ _ (read_opening bs r)
    (λ none r' q. fronts (subst (λ (k : ℕ). Front xs (k ∷ []) r) (eqb-true a b e) p.1) q)
    (opening_forth bs r p.1.rest)))

length_32 : (n : ℕ) → length (bytes32 n) ≡ 4
unfolding bytes32
length_32 n = refl

length_front : (xs ys r : List ℕ) → Front xs ys r → length xs ≡ length ys + length r
length_front xs ys r p = ap length p.split ∙ length-append ys r

module _ {R : Type 0} (f : Form R) (law : Lawful f) where
  -- what is read of n pairs and of the bytes behind them
  pub record ReadRecords (n at : ℕ) (ps xs : List ℕ) (rs : List (ListRecord R)) (r : List ℕ) : Type 0 where
    pub rest : r ≡ []
    pub count : length rs ≡ n
    pub each : AllInLayout f rs
    pub pairs_are : ps ≡ write_pairs f at rs
    pub records_are : xs ≡ write_records f rs

  records_none : (at : ℕ) (ps xs : List ℕ) → length ps ≡ 0 → Holds (ReadRecords 0 at ps xs) (read_records f 0 at ps xs)
  unfolding read_records write_pairs write_records AllInLayout
  records_none at ps [] h = record { rest = refl; count = refl; each = tt; pairs_are = nil_from_length ps h; records_are = refl }
  records_none at ps (x ∷ xs) h = tt

  module _ (n at : ℕ) (ps xs : List ℕ) (offset : ℕ) (ps₁ : List ℕ) (size : ℕ) (ps₂ ys rest : List ℕ) (r : ListRecord R) (rs : List (ListRecord R)) (s : List ℕ)
      (p : Front ps (bytes32 offset) ps₁) (e : offset ≡ at) (q : Front ps₁ (bytes32 size) ps₂) (long : length ys ≡ size) (u : Front xs ys rest)
      (one : Read f law ys r s) (t : ReadRecords n (at + size) ps₂ rest rs []) where
    records_more : ReadRecords (suc n) at ps xs (r ∷ rs) []
    unfolding write_pairs write_records AllInLayout
    records_more =
        let d : size ≡ length (write_record f r) = sym long ∙ ap length one.2 in
        record {
          rest = refl;
          count = ap suc t.count;
          each = (one.0, t.each);
          pairs_are =
              p.split
              ∙ ap (λ (k : ℕ). bytes32 k ++ ps₁) e
              ∙ ap (λ (l : List ℕ). bytes32 at ++ l) (q.split ∙ ap (λ (l : List ℕ). bytes32 size ++ l) t.pairs_are ∙ ap (λ (k : ℕ). bytes32 k ++ write_pairs f (at + k) rs) d);
          records_are = u.split ∙ ap (λ (l : List ℕ). ys ++ l) t.records_are ∙ ap (λ (l : List ℕ). l ++ write_records f rs) one.2;
        }

  records_forth : (n at : ℕ) (ps xs : List ℕ) → AllBytes ps → AllBytes xs → length ps ≡ 8 * n → Holds (ReadRecords n at ps xs) (read_records f n at ps xs)
  unfolding read_records
  records_forth zero at ps xs bp bx h = records_none at ps xs h
  records_forth (suc n) at ps xs bp bx h =
      holds_then _ _ (read32 ps) _ (read32_forth ps bp)
      (λ offset ps₁ p. holds_only_if _ (eqb offset at) _
      (λ e. holds_then _ _ (read32 ps₁) _ (read32_forth ps₁ p.1.rest)
      (λ size ps₂ q. holds_then _ _ (read_many read_byte size xs) _ (run_forth size xs bx)
      (λ ys rest u. holds_then _ _ (read_record f ys) _ (record_forth f law ys u.1)
      (λ r s one. holds_then _ _ (read_records f n (at + size) ps₂ rest) _
      (records_forth n (at + size) ps₂ rest q.1.rest u.2.rest
      (omega (arith, length_front ps (bytes32 offset) ps₁ p.1, length_front ps₁ (bytes32 size) ps₂ q.1, length_32 offset, length_32 size)))
      (λ rs none t.
      records_more n at ps xs offset ps₁ size ps₂ ys rest r rs s p.1 (eqb-true offset at e) q.1 u.0 u.2 one
      (subst (λ (l : List ℕ). ReadRecords n (at + size) ps₂ rest rs l) t.rest t)))))))

  -- what is read of some bytes as a list: nothing is left, the list is in the layout, and its bytes are these
  pub record ReadList (xs : List ℕ) (rs : List (ListRecord R)) (r : List ℕ) : Type 0 where
    pub rest : r ≡ []
    pub inside : ListInLayout f rs
    pub same : xs ≡ write_list f rs

  list_is : (xs : List ℕ) (n : ℕ) (r₀ r₁ ps r₂ : List ℕ) (rs : List (ListRecord R)) → xs ≡ f.opening ++ r₀ → r₀ ≡ bytes16 n ++ r₁ → r₁ ≡ ps ++ r₂ → length rs ≡ n → ps ≡ write_pairs f (length f.opening + 2 + 8 * n) rs → r₂ ≡ write_records f rs → xs ≡ write_list f rs
  unfolding write_list
  list_is xs n r₀ r₁ ps r₂ rs a b c d e g = rw d (a ∙ ap (λ (l : List ℕ). f.opening ++ l) (b ∙ ap (λ (l : List ℕ). bytes16 n ++ l) (c ∙ ap (λ (l : List ℕ). l ++ r₂) e ∙ ap (λ (l : List ℕ). write_pairs f (length f.opening + 2 + 8 * n) rs ++ l) g)))

  pub list_forth : (xs : List ℕ) → AllBytes xs → Holds (ReadList xs) (read_list f xs)
  unfolding read_list read_counted
  list_forth xs h =
      holds_then _ _ (read_opening f.opening xs) _ (opening_forth f.opening xs h)
      (λ none r₀ p. holds_then _ _ (read16 r₀) _ (read16_forth r₀ p.rest)
      (λ n r₁ q. holds_only_if _ (leb n 512) _
      (λ few. holds_then _ _ (read_many read_byte (8 * n) r₁) _ (run_forth (8 * n) r₁ q.1.rest)
      (λ ps r₂ u. holds_map _ _ (read_records f n (length f.opening + 2 + 8 * n) ps r₂)
      (λ rs r t. record {
        rest = t.rest;
        inside = record { few = rw t.count (leb-true n 512 few); each = t.each };
        same = list_is xs n r₀ r₁ ps r₂ rs p.split q.1.split u.2.split t.count t.pairs_are t.records_are;
      })
      (records_forth n (length f.opening + 2 + 8 * n) ps r₂ u.1 u.2.rest u.0)))))
