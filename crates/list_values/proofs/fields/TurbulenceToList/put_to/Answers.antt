-- Six writers in a row are one; the seed's bits are its two's complement, which the list has. Assumes nothing.
use native.Mathlib.Omega.{arith}
use mathlib.Core.Path.{◌≡◌, refl, ap, ◌∙◌}
use lib.IntN.{ℤ, pos, negsuc}
use mir.Syntax.{w32}
use mir.Val.{to_z, of_z}
use Rattle.bits.proofs.Writing.{◌then◌, ◌counted◌}
use Rattle.tree.specs.Scalars.{twos_complement, i32_bytes}
use Rattle.tree.specs.Fields.{turbulence_bytes}
use borrow.Author.Rules.{rules}
use Rattle.list_values.proofs.fields.TurbulenceToList.put_to.Goals as goal

complement_bits : (v : ℤ) → of_z w32 v ≡ twos_complement v
complement_bits (pos n) = refl
complement_bits (negsuc n) = omega arith

pub returns : goal.returns
unfolding turbulence_bytes i32_bytes
returns c =
    let z = c.args.self.seed in
    let back : to_z w32 (of_z w32 z) ≡ z = search rules in
    let seed : c.cast_unsigned.result ≡ twos_complement z = c.cast_unsigned.ensures ∙ ap (of_z w32) back ∙ complement_bits z in
    rw (← seed, ← c.from.ensures, ← c.from-2.ensures) (c.put.ensures then c.put-2.ensures then c.put-3.ensures then c.put-4.ensures then c.put-5.ensures then c.put-6.ensures counted omega arith)
