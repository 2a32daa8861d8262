-- What the laws of records and lists ask of a form, and that both forms have it. Assumes nothing.
use Prim.Native.Nat.{ℕ, ◌≤◌}
use native.Mathlib.Omega.{arith}
use mathlib.Core.Path.{◌≡◌}
use mathlib.Core.List.{List, ◌++◌}
use mathlib.Core.Bool.{true}
use borrow.Author.Tests.{ltb-true, leb-true, lt-ltb, le-leb}
use lib.Dec.{leb}
use lib.ListN.{length}
use Rattle.std.proofs.lemmas.Bool.{and_parts, and_from}
use Rattle.bits.specs.Bytes.{bytes16}
use Rattle.bits.specs.Utf8.{utf8}
use Rattle.list_read.specs.Read.{Got, got, read16, read_text}
use Rattle.tree.specs.Input.{text_bytes}
use Rattle.list_read.specs.Records.{Form, form1, text_fits}
use Rattle.list_read.specs.Forms.{form2, form_of}
use Rattle.list_read.specs.declared.ListForm.{ListForm}
use Rattle.list_read.specs.declared.ListForm.TheVariants.{One, Two}
use Rattle.list_read.proofs.Back.{read16_back, text_back}
use Rattle.list_read.proofs.Forth.{Holds, AllBytes, Front, read16_forth, text_forth}

pub holds_map : {A : Type 0} (P Q : A → List ℕ → Type 0) (g : Got A) → ((a : A) (r : List ℕ) → P a r → Q a r) → Holds P g → Holds Q g
holds_map P Q Got.outside k h = tt
holds_map P Q (got a r) k h = k a r h

pub record Lawful {R : Type 0} (f : Form R) : Type 0 where
  pub back : (t : R) (r : List ℕ) → f.reference_fits t ≡ true → f.read_reference (f.write_reference t ++ r) ≡ got t r
  pub forth : (xs : List ℕ) → AllBytes xs → Holds (λ t r. (f.reference_fits t ≡ true) × Front xs (f.write_reference t) r) (f.read_reference xs)
  pub size : (t : R) → f.reference_fits t ≡ true → length (f.write_reference t) ≤ 257
  pub short : length f.opening ≤ 2

pub text_size : (t : List ℕ) → text_fits t ≡ true → length (text_bytes t) ≤ 257
unfolding text_bytes bytes16
text_size t h = omega (arith, leb-true (length t) 255 (and_parts (leb (length t) 255) (utf8 t) h).0)

place_size : (n : ℕ) → length (bytes16 n) ≤ 257
unfolding bytes16
place_size n = omega arith

pub text_reads : (t r : List ℕ) → text_fits t ≡ true → read_text (text_bytes t ++ r) ≡ got t r
text_reads t r h = text_back t r (leb-true (length t) 255 (and_parts (leb (length t) 255) (utf8 t) h).0) (and_parts (leb (length t) 255) (utf8 t) h).1

pub text_read : (xs : List ℕ) → AllBytes xs → Holds (λ t r. (text_fits t ≡ true) × Front xs (text_bytes t) r) (read_text xs)
text_read xs h = holds_map _ _ (read_text xs) (λ t r p. (and_from _ _ (le-leb (length t) 255 p.0) p.1, p.2)) (text_forth xs h)

pub lawful1 : Lawful form1
lawful1 = record { back = text_reads; forth = text_read; size = text_size; short = omega arith }

pub lawful2 : Lawful form2
lawful2 =
    record {
      back = λ n r h. read16_back n r (ltb-true n 65536 h);
      forth = λ xs h. holds_map _ _ (read16 xs) (λ n r p. (lt-ltb n 65536 p.0, p.1)) (read16_forth xs h);
      size = λ n h. place_size n;
      short = omega arith;
    }

pub lawful : (f : ListForm) → Lawful (form_of f)
lawful One = lawful1
lawful Two = lawful2
