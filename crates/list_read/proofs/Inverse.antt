-- Reading and writing a list are inverse to each other, in either form. Assumes nothing.
use Prim.Native.Nat.{ℕ}
use mathlib.Core.Path.{◌≡◌, sym, ap, ◌∙◌, subst}
use mathlib.Core.List.{List, []}
use Rattle.list_read.specs.Read.{got}
use Rattle.list_read.specs.Records.{ListRecord}
use Rattle.list_read.specs.Forms.{ReferenceIn, form_of}
use Rattle.list_read.specs.Lists.{read_list}
use Rattle.list_read.specs.Write.{write_list, ListInLayout}
use Rattle.list_read.specs.declared.ListForm.{ListForm}
use Rattle.list_read.proofs.Forth.{Holds, AllBytes}
use Rattle.list_read.proofs.Forms.{lawful}
use Rattle.list_read.proofs.ListBack.{list_back}
use Rattle.list_read.proofs.ListForth.{ReadList, list_forth}

module _ (form : ListForm) where
  -- what is written is read back
  pub read_written : (rs : List (ListRecord (ReferenceIn form))) → ListInLayout (form_of form) rs → read_list (form_of form) (write_list (form_of form) rs) ≡ got rs []
  read_written rs inside = list_back (form_of form) (lawful form) rs inside

  -- what is read was written: nothing is left, the list is in the layout, and its bytes are these
  pub written_read : (xs : List ℕ) → AllBytes xs → (rs : List (ListRecord (ReferenceIn form))) (r : List ℕ) → read_list (form_of form) xs ≡ got rs r → ReadList (form_of form) (lawful form) xs rs r
  written_read xs b rs r e = subst (Holds (ReadList (form_of form) (lawful form) xs)) e (list_forth (form_of form) (lawful form) xs b)

  -- so the bytes of a list have one reading
  pub one_reading : (rs rs' : List (ListRecord (ReferenceIn form))) → ListInLayout (form_of form) rs → ListInLayout (form_of form) rs' → write_list (form_of form) rs ≡ write_list (form_of form) rs' → rs ≡ rs'
  one_reading rs rs' i i' e = let same : got rs [] ≡ got rs' [] = sym (read_written rs i) ∙ ap (read_list (form_of form)) e ∙ read_written rs' i' in cc
