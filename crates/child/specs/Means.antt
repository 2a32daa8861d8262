-- What the code's child and kind, whose texts are places in the sheet, stand for. Definitions only.
use Rattle.std.specs.Prelude.{ℕ, List, map, Option}
use Rattle.bits.specs.Texts.{maybe_text_is}
use Rattle.svgtree.specs.Parse.{nodes_from}
use Rattle.tree.specs.Input.{Name}
use Rattle.tree.specs.Kinds as spec
use Rattle.tree.specs.Means.{color_matrix_kind_is, component_transfer_is, convolve_matrix_is}
use Rattle.child.specs.Child as value
use Rattle.child.specs.declared.Kind.{Kind}
use Rattle.child.specs.declared.Kind.TheVariants as kind
use Rattle.child.specs.declared.Child.{Child}
use Rattle.child.specs.Child.{in_of}

abbrev pub kind_is : List ℕ → Kind → spec.Kind (Option Name)
kind_is s (kind.Blend v) = spec.Blend (maybe_text_is s v.input1) (maybe_text_is s v.input2) v.fields
kind_is s (kind.ColorMatrix v) = spec.ColorMatrix (maybe_text_is s v.input) (color_matrix_kind_is s v.fields)
kind_is s (kind.ComponentTransfer v) = spec.ComponentTransfer (maybe_text_is s v.input) (component_transfer_is s v.fields)
kind_is s (kind.Composite v) = spec.Composite (maybe_text_is s v.input1) (maybe_text_is s v.input2) v.fields
kind_is s (kind.ConvolveMatrix v) = spec.ConvolveMatrix (maybe_text_is s v.input) (convolve_matrix_is s v.fields)
kind_is s (kind.DiffuseLighting v) = spec.DiffuseLighting (maybe_text_is s v.input) v.fields
kind_is s (kind.DisplacementMap v) = spec.DisplacementMap (maybe_text_is s v.input1) (maybe_text_is s v.input2) v.fields
kind_is s (kind.DropShadow v) = spec.DropShadow (maybe_text_is s v.input) v.fields
kind_is s (kind.Flood v) = spec.Flood v
kind_is s (kind.GaussianBlur v) = spec.GaussianBlur (maybe_text_is s v.input) v.fields
kind_is s (kind.Merge v) = spec.Merge (map in_of (nodes_from s v.first v.count))
kind_is s (kind.Morphology v) = spec.Morphology (maybe_text_is s v.input) v.fields
kind_is s (kind.Offset v) = spec.Offset (maybe_text_is s v.input) v.fields
kind_is s (kind.SpecularLighting v) = spec.SpecularLighting (maybe_text_is s v.input) v.fields
kind_is s (kind.Tile v) = spec.Tile (maybe_text_is s v.input)
kind_is s (kind.Turbulence v) = spec.Turbulence v

abbrev pub child_is : List ℕ → Child → value.Child
child_is s c =
    record {
      rect = c.rect;
      color_interpolation = c.color_interpolation;
      own = maybe_text_is s c.result;
      kind = kind_is s c.kind;
    }
