-- A record's bytes are those of its parts, one after the other. Assumes nothing.
use mathlib.Core.Path.{◌≡◌, sym, ap, ◌∙◌, subst}
use mathlib.Core.List.{List, [], ◌∷◌, ◌++◌}
use Prim.Native.Nat.{ℕ, ◌+◌}
use native.Mathlib.Omega.{arith}
use lib.ListN.{length, length-append}
use Rattle.bits.specs.Writer.{Writes}
use Rattle.bits.specs.declared.writer.Writer.{Writer}
use Rattle.bits.proofs.Writing.{◌counted◌}
use Rattle.tree.specs.Input.{text_bytes, input_bytes}
use Rattle.tree.specs.Scalars.{rect_bytes}
use Rattle.tree.specs.Places.{color_interpolation_place, kind_place}
use Rattle.tree.specs.Kinds.{inputs_in}
use Rattle.tree.specs.List.{inputs_bytes, kind_bytes, primitive_bytes}
use Rattle.tree.proofs.Lengths.{length_rect}
use Rattle.tree.proofs.Inputs.{bytes_map}
use Rattle.child.specs.Means.{kind_is}
use Rattle.child.specs.declared.Child.{Child}
use Rattle.results.specs.Means.{name_is}
use Rattle.results.specs.declared.ResultName.{ResultName}
use Rattle.list_fields.specs.Means.{fields_in, inputs_is}
use Rattle.list_fields.specs.declared.Inputs.{Inputs}
use Rattle.list_primitives.specs.Tables.{input_at, input_bytes_at, primitive_at}

-- the bytes of the inputs that the code holds
abbrev pub inputs_bytes_at : (s entries : List ℕ) → Inputs → List ℕ
inputs_bytes_at s entries i = inputs_bytes (input_bytes_at s entries) (inputs_is s i)

module _ (s entries : List ℕ) (name : ResultName) (c : Child) where
  abbrev inputs : List ℕ
  inputs = inputs_bytes (input_bytes_at s entries) (inputs_in (kind_is s c.kind))

  pub primitive_parts : primitive_bytes (primitive_at s entries name c)
      ≡ rect_bytes c.rect ++ (color_interpolation_place c.color_interpolation ∷ []) ++ text_bytes (name_is s name) ++ ((kind_place (kind_is s c.kind) ∷ []) ++ inputs ++ fields_in s c.kind)
  unfolding primitive_bytes kind_bytes
  primitive_parts =
      ap (λ (l : List ℕ). rect_bytes c.rect ++ (color_interpolation_place c.color_interpolation ∷ []) ++ text_bytes (name_is s name) ++ l)
      (bytes_map input_bytes (input_at s entries) (kind_is s c.kind))

  pub primitive_long : length (primitive_bytes (primitive_at s entries name c)) ≡ 18 + length (text_bytes (name_is s name)) + length inputs + length (fields_in s c.kind)
  primitive_long = ap length primitive_parts ∙ simp length-append (omega (arith, length_rect c.rect))

-- what was written is this, by other words
pub writes_like : {w w' : Writer} {x y : List ℕ} {n : ℕ} → x ≡ y → Writes w n y w' → n ≡ length x → Writes w (length x) x w'
writes_like {w} {w'} {x} {y} {n} e p q = subst (λ (z : List ℕ). Writes w (length x) z w') (sym e) (p counted q)

pub ruleset parts = (primitive_parts, primitive_long)
