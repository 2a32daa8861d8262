-- What a reader of the list's bytes finds of a primitive: `list_record_of`. Definitions only.
use Rattle.tree.specs.Input.{Name}
use Rattle.tree.specs.Scalars.{rect_bytes}
use Rattle.tree.specs.Places.{color_interpolation_place, kind_place}
use Rattle.tree.specs.Fields.{field_bytes}
use Rattle.tree.specs.Kinds.{Primitive, inputs_of}
use Rattle.list_read.specs.Records.{ListRecord}

-- the record that is read of a primitive's bytes
abbrev pub list_record_of : Primitive → ListRecord Name
list_record_of p =
    record {
      rect = rect_bytes p.rect;
      color_interpolation = color_interpolation_place p.color_interpolation;
      result = p.result;
      kind = kind_place p.kind;
      inputs = inputs_of p.kind;
      fields = field_bytes p.kind;
    }
