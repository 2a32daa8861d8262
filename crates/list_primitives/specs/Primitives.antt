-- From the children that count to the primitives of the list: each is named, and its inputs are resolved, with what the children before it are
-- called. No sheet and no place occurs here. Definitions only.
use Rattle.std.specs.Prelude.{List, [], ◌∷◌}
use Rattle.tree.specs.Kinds.{Primitive, map_kind, inputs_of}
use Rattle.child.specs.Child.{Child}
use Rattle.naming.specs.Names.{Results, start, names_so_far, name_of, label, after}
use Rattle.naming.specs.Inputs.{resolve}
use Rattle.naming.specs.Agreement.{ChildNames}

-- a child's primitive, after children that left this naming state
abbrev pub primitive_of : Results → Child → Primitive
primitive_of st c =
    record {
      rect = c.rect;
      color_interpolation = c.color_interpolation;
      result = name_of (label st c.own);
      kind = map_kind (resolve (names_so_far st)) c.kind;
    }

unfoldable pub primitives_from : Results → List Child → List Primitive
primitives_from st [] = []
primitives_from st (c ∷ cs) = primitive_of st c ∷ primitives_from (after st c.own) cs

-- one primitive for each child, in order
abbrev pub primitives : List Child → List Primitive
primitives cs = primitives_from start cs

-- a child as far as names go: what the rule sees
abbrev pub child_names : Child → ChildNames
child_names c = record { own = c.own; inputs = inputs_of c.kind }
