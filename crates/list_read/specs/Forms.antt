-- The two forms of a list, by the code's name of each. The converter writes form 1, and no contract of an exported call reaches form 2. Definitions only.
use Rattle.std.specs.Prelude.{ℕ, [], ◌∷◌, ltb}
use Rattle.bits.specs.Bytes.{bytes16}
use Rattle.tree.specs.Input.{Name}
use Rattle.list_read.specs.declared.ListForm.{ListForm}
use Rattle.list_read.specs.declared.ListForm.TheVariants.{One, Two}
use Rattle.list_read.specs.Records.{Form, form1}
use Rattle.list_read.specs.Read.{read16}

-- "List form 2 opens with the u16 65,535, .. a reference is the u16 place of the earlier primitive"
abbrev pub form2 : Form ℕ
form2 = record { opening = 255 ∷ 255 ∷ []; read_reference = read16; write_reference = bytes16; reference_fits = λ n. ltb n 65536 }

abbrev pub ReferenceIn : ListForm → Type 0
ReferenceIn One = Name
ReferenceIn Two = ℕ

abbrev pub form_of : (f : ListForm) → Form (ReferenceIn f)
form_of One = form1
form_of Two = form2
