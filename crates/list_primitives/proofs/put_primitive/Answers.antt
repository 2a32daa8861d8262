-- The parts, one writer after the other: `primitive_parts`. Assumes nothing.
use native.Mathlib.Omega.{arith}
use Rattle.bits.proofs.Writing.{◌then◌}
use Rattle.results.specs.Sizes.{name_counted}
use Rattle.list_primitives.proofs.Parts.{primitive_parts, primitive_long, writes_like}
use Rattle.list_primitives.proofs.put_primitive.Goals as goal

pub returns : goal.returns
returns c =
    let a = c.args in
    let s = a.names.now.bytes.now in
    let entries = a.names.now.entries.now in
    let color = rw c.from.ensures at c.put.ensures in
    let place = rw (c.from-2.ensures, c.kind_name.ensures s) at c.put-2.ensures in
    let inputs = rw (c.inputs_of.ensures.read s) at c.put_inputs.ensures in
    let called = rw (← name_counted s a.name) at c.put_to-2.ensures in
    writes_like (primitive_parts s entries a.name a.child)
    (c.put_to.ensures then color then called then (place then inputs then c.put_fields.ensures))
    (omega (arith, primitive_long s entries a.name a.child))
