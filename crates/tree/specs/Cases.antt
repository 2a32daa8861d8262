-- Lists and kinds with their bytes, each found by computing. The first is the example of the list's format; the others are what
-- the crate gives for such children.
use Rattle.std.specs.Prelude.{ℕ, ◌≡◌, refl, [], ◌∷◌, true, negsuc, Float, Some}
use Rattle.std.specs.Float.{binary32}
use Rattle.std.specs.Float.Ieee.{of_bits, to_bits, round, sub}
use Rattle.bits.specs.Bytes.{bytes16, bytes32}
use Rattle.geom.specs.declared.Rect.{Rect}
use Rattle.tree.specs.Input.{Name, SourceGraphic, SourceAlpha, Reference, text_bytes, input_bytes}
use Rattle.tree.specs.Scalars.{i32_bytes, color_bytes, rect_bytes, option_bytes, run_bytes, numbers_bytes}
use Rattle.tree.specs.Kinds.{Identity, Table, Linear, Gamma, Blend, ComponentTransfer, ConvolveMatrix, Flood, Merge, SpecularLighting, Tile, Turbulence}
use Rattle.tree.specs.Fields.{transfer_function_bytes, component_transfer_bytes, convolve_matrix_data_bytes, convolve_matrix_bytes, triple_bytes, spot_light_bytes, light_source_bytes, flood_bytes, specular_lighting_bytes, turbulence_bytes}
use Rattle.tree.specs.List.{input_run, kind_bytes, primitive_bytes, pairs_bytes, records_bytes, list_bytes}
use Rattle.tree.specs.declared.ColorInterpolation.TheVariants.{SRGB, LinearRGB}
use Rattle.tree.specs.declared.BlendMode.TheVariants.{Screen}
use Rattle.tree.specs.declared.EdgeMode.TheVariants.{Wrap}
use Rattle.tree.specs.declared.TurbulenceKind.TheVariants.{FractalNoise}
use Rattle.tree.specs.declared.LightSource.TheVariants.{SpotLight}
use Rattle.num.specs.Constants.{plus_zero as zero, one, two}

abbrev quarter : Float
quarter = of_bits binary32 0x3e80_0000

abbrev half : Float
half = of_bits binary32 0x3f00_0000

abbrev four : Float
four = of_bits binary32 0x4080_0000

-- x 0, y 0, width 2, height 1
abbrev two_by_one : Rect
two_by_one = record { left = zero; top = zero; right = two; bottom = one }

-- `result` and one digit
abbrev made_result : ℕ → Name
made_result digit = 0x72 ∷ 0x65 ∷ 0x73 ∷ 0x75 ∷ 0x6c ∷ 0x74 ∷ digit ∷ []

-- one bare feTile: count; offset 10, length 28; rectangle; linearRGB; `result1`; Tile; SourceGraphic
pub tile_list : list_bytes (record { rect = two_by_one; color_interpolation = LinearRGB; result = made_result 0x31; kind = Tile SourceGraphic } ∷ [])
    ≡ 0x01 ∷ 0x00
    ∷ 0x0a ∷ 0x00 ∷ 0x00 ∷ 0x00 ∷ 0x1c ∷ 0x00 ∷ 0x00 ∷ 0x00
    ∷ 0x00 ∷ 0x00 ∷ 0x00 ∷ 0x00 ∷ 0x00 ∷ 0x00 ∷ 0x00 ∷ 0x00 ∷ 0x00 ∷ 0x00 ∷ 0x00 ∷ 0x40 ∷ 0x00 ∷ 0x00 ∷ 0x80 ∷ 0x3f
    ∷ 0x01
    ∷ 0x07 ∷ 0x00 ∷ 0x72 ∷ 0x65 ∷ 0x73 ∷ 0x75 ∷ 0x6c ∷ 0x74 ∷ 0x31
    ∷ 0x0f ∷ 0x00
    ∷ []
unfolding list_bytes pairs_bytes records_bytes primitive_bytes kind_bytes rect_bytes text_bytes input_bytes bytes16 bytes32 sub round of_bits to_bits
tile_list = refl

-- an feFlood of half opacity with the result `a`, and an feBlend of mode screen in sRGB with `a` for both inputs
pub blend_list : list_bytes
    (record { rect = two_by_one; color_interpolation = LinearRGB; result = 0x61 ∷ []; kind = Flood (record { color = record { red = 255; green = 128; blue = 0 }; opacity = half }) }
    ∷ record { rect = two_by_one; color_interpolation = SRGB; result = made_result 0x32; kind = Blend (Reference (0x61 ∷ [])) (Reference (0x61 ∷ [])) Screen }
    ∷ [])
    ≡ 0x02 ∷ 0x00
    ∷ 0x12 ∷ 0x00 ∷ 0x00 ∷ 0x00 ∷ 0x1c ∷ 0x00 ∷ 0x00 ∷ 0x00 ∷ 0x2e ∷ 0x00 ∷ 0x00 ∷ 0x00 ∷ 0x24 ∷ 0x00 ∷ 0x00 ∷ 0x00
    ∷ 0x00 ∷ 0x00 ∷ 0x00 ∷ 0x00 ∷ 0x00 ∷ 0x00 ∷ 0x00 ∷ 0x00 ∷ 0x00 ∷ 0x00 ∷ 0x00 ∷ 0x40 ∷ 0x00 ∷ 0x00 ∷ 0x80 ∷ 0x3f
    ∷ 0x01
    ∷ 0x01 ∷ 0x00 ∷ 0x61
    ∷ 0x08 ∷ 0xff ∷ 0x80 ∷ 0x00 ∷ 0x00 ∷ 0x00 ∷ 0x00 ∷ 0x3f
    ∷ 0x00 ∷ 0x00 ∷ 0x00 ∷ 0x00 ∷ 0x00 ∷ 0x00 ∷ 0x00 ∷ 0x00 ∷ 0x00 ∷ 0x00 ∷ 0x00 ∷ 0x40 ∷ 0x00 ∷ 0x00 ∷ 0x80 ∷ 0x3f
    ∷ 0x00
    ∷ 0x07 ∷ 0x00 ∷ 0x72 ∷ 0x65 ∷ 0x73 ∷ 0x75 ∷ 0x6c ∷ 0x74 ∷ 0x32
    ∷ 0x00 ∷ 0x02 ∷ 0x01 ∷ 0x00 ∷ 0x61 ∷ 0x02 ∷ 0x01 ∷ 0x00 ∷ 0x61 ∷ 0x02
    ∷ []
unfolding list_bytes pairs_bytes records_bytes primitive_bytes kind_bytes flood_bytes color_bytes rect_bytes text_bytes input_bytes bytes16 bytes32 sub round of_bits to_bits
blend_list = refl

-- base frequency 0.5 and 0.25, two octaves, seed -2, stitched, fractal noise
pub turbulence_kind : kind_bytes (Turbulence (record { base_frequency_x = half; base_frequency_y = quarter; num_octaves = 2; seed = negsuc 1; stitch_tiles = true; kind = FractalNoise }))
    ≡ 0x10
    ∷ 0x00 ∷ 0x00 ∷ 0x00 ∷ 0x3f ∷ 0x00 ∷ 0x00 ∷ 0x80 ∷ 0x3e
    ∷ 0x02 ∷ 0x00 ∷ 0x00 ∷ 0x00
    ∷ 0xfe ∷ 0xff ∷ 0xff ∷ 0xff
    ∷ 0x01 ∷ 0x00
    ∷ []
unfolding kind_bytes turbulence_bytes i32_bytes bytes32 of_bits to_bits
turbulence_kind = refl

-- a kernel of the two numbers 1 and 2 in one row, with its target at 1, 0; divisor 0.5, bias 0, wrap, alpha preserved
pub convolve_kind : kind_bytes (ConvolveMatrix SourceGraphic (record { matrix = record { target_x = 1; target_y = 0; columns = 2; rows = 1; numbers = one ∷ two ∷ [] }; divisor = half; bias = zero; edge_mode = Wrap; preserve_alpha = true }))
    ≡ 0x04 ∷ 0x00
    ∷ 0x01 ∷ 0x00 ∷ 0x00 ∷ 0x00 ∷ 0x00 ∷ 0x00 ∷ 0x00 ∷ 0x00 ∷ 0x02 ∷ 0x00 ∷ 0x00 ∷ 0x00 ∷ 0x01 ∷ 0x00 ∷ 0x00 ∷ 0x00
    ∷ 0x02 ∷ 0x00 ∷ 0x00 ∷ 0x00 ∷ 0x80 ∷ 0x3f ∷ 0x00 ∷ 0x00 ∷ 0x00 ∷ 0x40
    ∷ 0x00 ∷ 0x00 ∷ 0x00 ∷ 0x3f ∷ 0x00 ∷ 0x00 ∷ 0x00 ∷ 0x00
    ∷ 0x02 ∷ 0x01
    ∷ []
unfolding kind_bytes input_bytes convolve_matrix_bytes convolve_matrix_data_bytes numbers_bytes run_bytes bytes16 bytes32 of_bits to_bits
convolve_kind = refl

-- red by a table, green linear, blue as it is, alpha by gamma
pub transfer_kind : kind_bytes (ComponentTransfer (Reference (made_result 0x31)) (record { func_r = Table (zero ∷ one ∷ []); func_g = Linear two half; func_b = Identity; func_a = Gamma one two half }))
    ≡ 0x02 ∷ 0x02 ∷ 0x07 ∷ 0x00 ∷ 0x72 ∷ 0x65 ∷ 0x73 ∷ 0x75 ∷ 0x6c ∷ 0x74 ∷ 0x31
    ∷ 0x01 ∷ 0x02 ∷ 0x00 ∷ 0x00 ∷ 0x00 ∷ 0x00 ∷ 0x00 ∷ 0x00 ∷ 0x00 ∷ 0x80 ∷ 0x3f
    ∷ 0x03 ∷ 0x00 ∷ 0x00 ∷ 0x00 ∷ 0x40 ∷ 0x00 ∷ 0x00 ∷ 0x00 ∷ 0x3f
    ∷ 0x00
    ∷ 0x04 ∷ 0x00 ∷ 0x00 ∷ 0x80 ∷ 0x3f ∷ 0x00 ∷ 0x00 ∷ 0x00 ∷ 0x40 ∷ 0x00 ∷ 0x00 ∷ 0x00 ∷ 0x3f
    ∷ []
unfolding kind_bytes input_bytes text_bytes component_transfer_bytes transfer_function_bytes numbers_bytes run_bytes bytes16 bytes32 of_bits to_bits
transfer_kind = refl

-- a spot light at 1, 2, 0 that is turned to 0, 0, 0, with exponent 1 and a cone of 4
pub specular_kind : kind_bytes
    (SpecularLighting (Reference (made_result 0x32))
    (record {
      surface_scale = one;
      specular_constant = one;
      specular_exponent = two;
      lighting_color = record { red = 1; green = 2; blue = 3 };
      light_source =
          SpotLight (record { x = one; y = two; z = zero; points_at_x = zero; points_at_y = zero; points_at_z = zero; specular_exponent = one; limiting_cone_angle = Some four });
    }))
    ≡ 0x0e ∷ 0x02 ∷ 0x07 ∷ 0x00 ∷ 0x72 ∷ 0x65 ∷ 0x73 ∷ 0x75 ∷ 0x6c ∷ 0x74 ∷ 0x32
    ∷ 0x00 ∷ 0x00 ∷ 0x80 ∷ 0x3f ∷ 0x00 ∷ 0x00 ∷ 0x80 ∷ 0x3f ∷ 0x00 ∷ 0x00 ∷ 0x00 ∷ 0x40
    ∷ 0x01 ∷ 0x02 ∷ 0x03
    ∷ 0x02 ∷ 0x00 ∷ 0x00 ∷ 0x80 ∷ 0x3f ∷ 0x00 ∷ 0x00 ∷ 0x00 ∷ 0x40 ∷ 0x00 ∷ 0x00 ∷ 0x00 ∷ 0x00
    ∷ 0x00 ∷ 0x00 ∷ 0x00 ∷ 0x00 ∷ 0x00 ∷ 0x00 ∷ 0x00 ∷ 0x00 ∷ 0x00 ∷ 0x00 ∷ 0x00 ∷ 0x00
    ∷ 0x00 ∷ 0x00 ∷ 0x80 ∷ 0x3f
    ∷ 0x01 ∷ 0x00 ∷ 0x00 ∷ 0x80 ∷ 0x40
    ∷ []
unfolding kind_bytes input_bytes text_bytes specular_lighting_bytes color_bytes light_source_bytes spot_light_bytes triple_bytes option_bytes bytes16 bytes32 of_bits to_bits
specular_kind = refl

-- an feMerge of SourceAlpha and `result1`
pub merge_kind : kind_bytes (Merge (SourceAlpha ∷ Reference (made_result 0x31) ∷ []))
    ≡ 0x0b ∷ 0x02 ∷ 0x00 ∷ 0x01 ∷ 0x02 ∷ 0x07 ∷ 0x00 ∷ 0x72 ∷ 0x65 ∷ 0x73 ∷ 0x75 ∷ 0x6c ∷ 0x74 ∷ 0x31 ∷ []
unfolding kind_bytes input_run input_bytes text_bytes bytes16
merge_kind = refl
