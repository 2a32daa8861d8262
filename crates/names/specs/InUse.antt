-- The code's constants for elements and attributes, one by one, and that each has the number of Ids.antt. Assumes nothing.
use Rattle.std.specs.Prelude.{ℕ, List, [], ◌∷◌, ◌≡◌, refl}
use Rattle.names.specs.declared.aid.TheConstants as aid
use Rattle.names.specs.declared.eid.TheConstants as eid
use Rattle.names.specs.Ids.{eid_fe_blend, eid_fe_color_matrix, eid_fe_component_transfer, eid_fe_composite, eid_fe_convolve_matrix, eid_fe_diffuse_lighting, eid_fe_displacement_map, eid_fe_distant_light, eid_fe_drop_shadow}
use Rattle.names.specs.Ids.{eid_fe_flood, eid_fe_func_a, eid_fe_func_b, eid_fe_func_g, eid_fe_func_r, eid_fe_gaussian_blur, eid_fe_image, eid_fe_merge, eid_fe_morphology, eid_fe_offset, eid_fe_point_light, eid_fe_specular_lighting}
use Rattle.names.specs.Ids.{eid_fe_spot_light, eid_fe_tile, eid_fe_turbulence, eid_count, aid_amplitude, aid_azimuth, aid_base_frequency, aid_bias, aid_color, aid_color_interpolation_filters, aid_diffuse_constant}
use Rattle.names.specs.Ids.{aid_divisor, aid_dx, aid_dy, aid_edge_mode, aid_elevation, aid_exponent, aid_flood_color, aid_flood_opacity, aid_height, aid_in, aid_in2, aid_intercept, aid_k1, aid_k2, aid_k3, aid_k4}
use Rattle.names.specs.Ids.{aid_kernel_matrix, aid_lighting_color, aid_limiting_cone_angle, aid_mode, aid_num_octaves, aid_offset, aid_operator, aid_order, aid_points_at_x, aid_points_at_y, aid_points_at_z, aid_preserve_alpha}
use Rattle.names.specs.Ids.{aid_radius, aid_result, aid_scale, aid_seed, aid_slope, aid_specular_constant, aid_specular_exponent, aid_std_deviation, aid_stitch_tiles, aid_surface_scale, aid_table_values, aid_target_x}
use Rattle.names.specs.Ids.{aid_target_y, aid_type, aid_values, aid_width, aid_x, aid_x_channel_selector, aid_y, aid_y_channel_selector, aid_z}

-- how many names `AId` declares: no id is as large
abbrev pub aid_count : ℕ
aid_count = 211

-- the elements' numbers, in their order: the constants of the code are these, one by one (`elements_agree`)
unfoldable pub elements_in_use : List ℕ
elements_in_use =
    eid_fe_blend ∷ eid_fe_color_matrix ∷ eid_fe_component_transfer ∷ eid_fe_composite ∷ eid_fe_convolve_matrix ∷ eid_fe_diffuse_lighting ∷
    eid_fe_displacement_map ∷ eid_fe_distant_light ∷ eid_fe_drop_shadow ∷ eid_fe_flood ∷ eid_fe_func_a ∷ eid_fe_func_b ∷ eid_fe_func_g ∷ eid_fe_func_r ∷
    eid_fe_gaussian_blur ∷ eid_fe_image ∷ eid_fe_merge ∷ eid_fe_morphology ∷ eid_fe_offset ∷ eid_fe_point_light ∷ eid_fe_specular_lighting ∷
    eid_fe_spot_light ∷ eid_fe_tile ∷ eid_fe_turbulence ∷ eid_count ∷ []

-- the attributes' numbers, likewise (`attributes_agree`)
unfoldable pub attributes_in_use : List ℕ
attributes_in_use =
    aid_amplitude ∷ aid_azimuth ∷ aid_base_frequency ∷ aid_bias ∷ aid_color ∷ aid_color_interpolation_filters ∷ aid_diffuse_constant ∷
    aid_divisor ∷ aid_dx ∷ aid_dy ∷ aid_edge_mode ∷ aid_elevation ∷ aid_exponent ∷ aid_flood_color ∷ aid_flood_opacity ∷ aid_height ∷ aid_in ∷
    aid_in2 ∷ aid_intercept ∷ aid_k1 ∷ aid_k2 ∷ aid_k3 ∷ aid_k4 ∷ aid_kernel_matrix ∷ aid_lighting_color ∷ aid_limiting_cone_angle ∷ aid_mode ∷
    aid_num_octaves ∷ aid_offset ∷ aid_operator ∷ aid_order ∷ aid_points_at_x ∷ aid_points_at_y ∷ aid_points_at_z ∷ aid_preserve_alpha ∷
    aid_radius ∷ aid_result ∷ aid_scale ∷ aid_seed ∷ aid_slope ∷ aid_specular_constant ∷ aid_specular_exponent ∷ aid_std_deviation ∷
    aid_stitch_tiles ∷ aid_surface_scale ∷ aid_table_values ∷ aid_target_x ∷ aid_target_y ∷ aid_type ∷ aid_values ∷ aid_width ∷ aid_x ∷
    aid_x_channel_selector ∷ aid_y ∷ aid_y_channel_selector ∷ aid_z ∷ aid_count ∷ []

-- the code's constants, one by one, have the numbers of Ids.antt
pub elements_agree : eid.IN_USE ≡ elements_in_use
unfolding elements_in_use
elements_agree = refl

pub attributes_agree : aid.IN_USE ≡ attributes_in_use
unfolding attributes_in_use
attributes_agree = refl
