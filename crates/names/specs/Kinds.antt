-- Which kind of value an attribute's id asks. Document 01, the layout of a node: the id sets the kind, by the use that filter.rs makes of the
-- attribute; `x` and `y` are lengths on a filter's child and numbers one level below; an id that filter.rs reads on no node of that depth has
-- no place in a sheet, and neither have those that only feImage reads. Assumes nothing.
use Rattle.std.specs.Prelude.{ℕ, Bool, false, cond, not, ◌&&◌, ◌||◌, List, [], ◌∷◌, eqb, leb, None, Option, Some}
use Rattle.sheet_fields.specs.declared.kind.ValueKind.{ValueKind}
use Rattle.sheet_fields.specs.declared.kind.ValueKind.TheVariants as kind
use Rattle.sheet_fields.specs.Fields.{kind_unreadable, kind_text, kind_numbers, kind_typed}
use Rattle.sheet_fields.specs.Kinds.{byte_of}
use Rattle.names.specs.Ids.{eid_count, aid_color_interpolation_filters, aid_result, aid_in, aid_in2, aid_mode, aid_type, aid_operator}
use Rattle.names.specs.Ids.{aid_edge_mode, aid_preserve_alpha, aid_x_channel_selector, aid_y_channel_selector, aid_stitch_tiles, aid_k1}
use Rattle.names.specs.Ids.{aid_k2, aid_k3, aid_k4, aid_divisor, aid_bias, aid_target_x, aid_target_y, aid_scale, aid_flood_opacity}
use Rattle.names.specs.Ids.{aid_dx, aid_dy, aid_surface_scale, aid_diffuse_constant, aid_specular_constant, aid_specular_exponent}
use Rattle.names.specs.Ids.{aid_num_octaves, aid_seed, aid_values, aid_kernel_matrix, aid_radius, aid_base_frequency, aid_x, aid_y}
use Rattle.names.specs.Ids.{aid_width, aid_height, aid_flood_color, aid_lighting_color, aid_color, aid_std_deviation, aid_order}
use Rattle.names.specs.Ids.{aid_slope, aid_intercept, aid_amplitude, aid_exponent, aid_offset, aid_azimuth, aid_elevation, aid_z}
use Rattle.names.specs.Ids.{aid_points_at_x, aid_points_at_y, aid_points_at_z, aid_limiting_cone_angle, aid_table_values}

-- the ids that ask one kind of value
pub record Asking : Type 0 where
  pub kind : ValueKind
  pub ids : List ℕ

-- depth 0: what filter.rs reads on a child of the filter
unfoldable pub on_child : List Asking
on_child =
    record {
      kind = kind.Text;
      ids =
          aid_color_interpolation_filters ∷ aid_result ∷ aid_in ∷ aid_in2 ∷ aid_mode ∷ aid_type ∷ aid_operator ∷ aid_edge_mode ∷ aid_preserve_alpha ∷
          aid_x_channel_selector ∷ aid_y_channel_selector ∷ aid_stitch_tiles ∷ [];
    } ∷
    record {
      kind = kind.Number;
      ids =
          aid_k1 ∷ aid_k2 ∷ aid_k3 ∷ aid_k4 ∷ aid_divisor ∷ aid_bias ∷ aid_target_x ∷ aid_target_y ∷ aid_scale ∷ aid_flood_opacity ∷ aid_dx ∷
          aid_dy ∷ aid_surface_scale ∷ aid_diffuse_constant ∷ aid_specular_constant ∷ aid_specular_exponent ∷ aid_num_octaves ∷ aid_seed ∷ [];
    } ∷
    record { kind = kind.Numbers; ids = aid_values ∷ aid_kernel_matrix ∷ aid_radius ∷ aid_base_frequency ∷ [] } ∷
    record { kind = kind.Length; ids = aid_x ∷ aid_y ∷ aid_width ∷ aid_height ∷ [] } ∷
    record { kind = kind.Color; ids = aid_flood_color ∷ aid_lighting_color ∷ aid_color ∷ [] } ∷
    record { kind = kind.Tries; ids = aid_std_deviation ∷ aid_order ∷ [] } ∷ []

-- depth 1: what it reads on a child of such a child (an input of feMerge, a transfer function, a light source)
unfoldable pub on_grandchild : List Asking
on_grandchild =
    record { kind = kind.Text; ids = aid_in ∷ aid_type ∷ [] } ∷
    record {
      kind = kind.Number;
      ids =
          aid_slope ∷ aid_intercept ∷ aid_amplitude ∷ aid_exponent ∷ aid_offset ∷ aid_azimuth ∷ aid_elevation ∷ aid_x ∷ aid_y ∷ aid_z ∷
          aid_points_at_x ∷ aid_points_at_y ∷ aid_points_at_z ∷ aid_specular_exponent ∷ aid_limiting_cone_angle ∷ [];
    } ∷
    record { kind = kind.Numbers; ids = aid_table_values ∷ [] } ∷ []

unfoldable pub among : ℕ → List ℕ → Bool
among id [] = false
among id (i ∷ is) = eqb id i || among id is

-- the kind under which the id is listed, none where it is not listed
unfoldable pub kind_in : List Asking → ℕ → Option ValueKind
kind_in [] id = None
kind_in (a ∷ rest) id = cond (among id a.ids) (Some a.kind) (kind_in rest id)

-- the kind that an id asks at a depth, none where filter.rs reads no such attribute. Depths other than 0 count as 1
unfoldable pub kind_at : (depth id : ℕ) → Option ValueKind
kind_at depth id = cond (eqb depth 0) (kind_in on_child id) (kind_in on_grandchild id)

-- whether a value of a kind may stand under an id that asks one. No value may where the id is not read. Where it is, the value has the kind that is
-- asked, or is unreadable, which text never is; a list may be typed (document 02, [2]); and lighting-color may be text too (that the text is
-- `currentColor` is not said here)
abbrev pub allowed_where : Option ValueKind → (id kind : ℕ) → Bool
allowed_where None id kind = false
allowed_where (Some asked) id kind =
    eqb kind (byte_of asked) ||
    (eqb kind kind_unreadable && not (eqb (byte_of asked) kind_text)) ||
    (eqb kind kind_typed && eqb (byte_of asked) kind_numbers) ||
    (eqb kind kind_text && eqb id aid_lighting_color)

-- the same at a depth
unfoldable pub kind_allowed : (depth id kind : ℕ) → Bool
kind_allowed depth id kind = allowed_where (kind_at depth id) id kind

-- a tag byte is 0, a node without a name, or 1 + a place in `EId`, counted from 0
abbrev pub tag_ok : ℕ → Bool
tag_ok tag = leb tag eid_count
