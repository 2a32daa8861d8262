-- Children and primitives as far as names go, where only proofs need it. Definitions only.
use Rattle.std.specs.Prelude.{List, map, Option}
use Rattle.tree.specs.Input.{Name}
use Rattle.tree.specs.Kinds.{Primitive, inputs_of}
use Rattle.naming.specs.Agreement.{RecordNames}
use Rattle.child.specs.Child.{Child}

-- the own results of children, in order
abbrev pub owns_of : List Child → List (Option Name)
owns_of cs = map (λ (c : Child). c.own) cs

-- a primitive as far as names go: what the reader's lookup sees
abbrev pub record_names : Primitive → RecordNames
record_names p = record { result = p.result; inputs = inputs_of p.kind }
