-- A list that is written is read back. Assumes nothing.
use Prim.Native.Nat.{ℕ, ◌+◌, ◌*◌, ◌<◌}
use native.Mathlib.Omega.{arith}
use mathlib.Core.Path.{◌≡◌, refl}
use mathlib.Core.List.{List, [], ◌∷◌, ◌++◌}
use borrow.Author.Tests.{eq-eqb, le-leb}
use lib.ListN.{length, length-append}
use Rattle.bits.specs.Bytes.{bytes16, bytes32}
use Rattle.list_read.specs.Read.{got}
use Rattle.list_read.specs.Records.{Form, ListRecord}
use Rattle.list_read.specs.Write.{write_record, write_pairs, write_records, write_list, AllInLayout, ListInLayout}
use Rattle.list_read.specs.Lists.{read_opening, read_records, read_counted, read_list}
use Rattle.list_read.proofs.Back.{read16_back, read32_back, run_back_at}
use Rattle.list_read.proofs.Forms.{Lawful}
use Rattle.list_read.proofs.RecordBack.{record_back}
use Rattle.list_read.proofs.Sizes.{few_small}

opening_back : (bs r : List ℕ) → read_opening bs (bs ++ r) ≡ got [] r
unfolding read_opening
opening_back [] r = refl
opening_back (b ∷ bs) r = rw (eq-eqb b b refl) (opening_back bs r)

module _ {R : Type 0} (f : Form R) where
  pub length_pairs : (at : ℕ) (rs : List (ListRecord R)) → length (write_pairs f at rs) ≡ 8 * length rs
  unfolding write_pairs bytes32
  length_pairs at [] = refl
  length_pairs at (r ∷ rs) = let e : length (write_pairs f (at + length (write_record f r)) rs) ≡ 8 * length rs = length_pairs (at + length (write_record f r)) rs in omega arith

  pub length_list : (rs : List (ListRecord R)) → length (write_list f rs) ≡ length f.opening + 2 + 8 * length rs + length (write_records f rs)
  unfolding write_list bytes16
  length_list rs = simp (length-append, length_pairs) (omega arith)

  module _ (law : Lawful f) where
    records_back : (rs : List (ListRecord R)) (at : ℕ) → AllInLayout f rs → at + length (write_records f rs) < 4294967296 → read_records f (length rs) at (write_pairs f at rs) (write_records f rs) ≡ got rs []
    unfolding read_records write_pairs write_records AllInLayout
    records_back [] at g h = refl
    records_back (r ∷ rs) at g h =
        let n = length (write_record f r) in
        let e : length (write_record f r ++ write_records f rs) ≡ n + length (write_records f rs) = length-append (write_record f r) (write_records f rs) in
        let i : at + n + length (write_records f rs) < 4294967296 = omega arith in
        let a : at < 4294967296 = omega arith in
        let s : n < 4294967296 = omega arith in
        rw (
          read32_back at (bytes32 n ++ write_pairs f (at + n) rs) a,
          eq-eqb at at refl,
          read32_back n (write_pairs f (at + n) rs) s,
          run_back_at (write_record f r) (write_records f rs) n refl,
          record_back f law r g.0,
          records_back rs (at + n) g.1 i,
        )

    -- a list in the layout is read back from its bytes
    pub list_back : (rs : List (ListRecord R)) → ListInLayout f rs → read_list f (write_list f rs) ≡ got rs []
    unfolding read_list read_counted write_list
    list_back rs g =
        let at = length f.opening + 2 + 8 * length rs in
        let k : length rs < 65536 = omega (arith, g.few) in
        let s : at + length (write_records f rs) < 4294967296 = omega (arith, few_small f law rs g.few g.each, law.short) in
        rw (
          opening_back f.opening (bytes16 (length rs) ++ (write_pairs f at rs ++ write_records f rs)),
          read16_back (length rs) (write_pairs f at rs ++ write_records f rs) k,
          le-leb (length rs) 512 g.few,
          run_back_at (write_pairs f at rs) (write_records f rs) (8 * length rs) (length_pairs at rs),
        )
        (records_back rs at g.each s)
