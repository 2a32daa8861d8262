-- How many bytes a name, and an input, is in the list, whatever the sheet's bytes are. The laws of their `ToList` stand here, since an impl cites no proofs of its crate.
use native.Mathlib.Omega.{arith}
use Rattle.std.specs.Prelude.{◌≡◌, refl, List, ℕ, ◌+◌, length}
use Rattle.tree.specs.Input.{text_bytes, input_bytes}
use Rattle.tree.proofs.Lengths.{length_text, length_own}
use Rattle.naming.specs.Names.{made_name}
use Rattle.results.specs.Means.{name_is, input_is}
use Rattle.results.specs.declared.ResultName.{ResultName}
use Rattle.results.specs.declared.ResultName.TheVariants as name
use Rattle.results.specs.declared.Input.{Input}
use Rattle.results.specs.declared.Input.TheVariants as input

abbrev pub name_size : ResultName → ℕ
name_size (name.Own t) = 2 + t.len
name_size (name.Made k) = 2 + length (made_name k)

abbrev pub input_size : Input → ℕ
input_size input.SourceGraphic = 1
input_size input.SourceAlpha = 1
input_size (input.Reference n) = 1 + name_size n

pub name_counted : (s : List ℕ) (n : ResultName) → length (text_bytes (name_is s n)) ≡ name_size n
name_counted s (name.Own t) = length_own s t
name_counted s (name.Made k) = length_text (made_name k)

pub input_counted : (s : List ℕ) (v : Input) → length (input_bytes (input_is s v)) ≡ input_size v
unfolding input_bytes
input_counted s input.SourceGraphic = refl
input_counted s input.SourceAlpha = refl
input_counted s (input.Reference n) = omega (arith, name_counted s n)
