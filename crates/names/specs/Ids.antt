-- The numbers that stand for element and attribute names in a sheet (document 01, the layout of a node), under the names of svgtree/names.rs.
-- `eid_fe_blend` is the tag byte of the source's `EId::FeBlend`, 1 + its place in the declaration, counted from 0, since tag 0 is a node without
-- a name. `aid_in` is the id of the source's `AId::In`, its place counted from 0. Assumes nothing.
use Rattle.std.specs.Prelude.{ℕ}

abbrev pub eid_fe_blend : ℕ
eid_fe_blend = 6

abbrev pub eid_fe_color_matrix : ℕ
eid_fe_color_matrix = 7

abbrev pub eid_fe_component_transfer : ℕ
eid_fe_component_transfer = 8

abbrev pub eid_fe_composite : ℕ
eid_fe_composite = 9

abbrev pub eid_fe_convolve_matrix : ℕ
eid_fe_convolve_matrix = 10

abbrev pub eid_fe_diffuse_lighting : ℕ
eid_fe_diffuse_lighting = 11

abbrev pub eid_fe_displacement_map : ℕ
eid_fe_displacement_map = 12

abbrev pub eid_fe_distant_light : ℕ
eid_fe_distant_light = 13

abbrev pub eid_fe_drop_shadow : ℕ
eid_fe_drop_shadow = 14

abbrev pub eid_fe_flood : ℕ
eid_fe_flood = 15

abbrev pub eid_fe_func_a : ℕ
eid_fe_func_a = 16

abbrev pub eid_fe_func_b : ℕ
eid_fe_func_b = 17

abbrev pub eid_fe_func_g : ℕ
eid_fe_func_g = 18

abbrev pub eid_fe_func_r : ℕ
eid_fe_func_r = 19

abbrev pub eid_fe_gaussian_blur : ℕ
eid_fe_gaussian_blur = 20

abbrev pub eid_fe_image : ℕ
eid_fe_image = 21

abbrev pub eid_fe_merge : ℕ
eid_fe_merge = 22

abbrev pub eid_fe_morphology : ℕ
eid_fe_morphology = 24

abbrev pub eid_fe_offset : ℕ
eid_fe_offset = 25

abbrev pub eid_fe_point_light : ℕ
eid_fe_point_light = 26

abbrev pub eid_fe_specular_lighting : ℕ
eid_fe_specular_lighting = 27

abbrev pub eid_fe_spot_light : ℕ
eid_fe_spot_light = 28

abbrev pub eid_fe_tile : ℕ
eid_fe_tile = 29

abbrev pub eid_fe_turbulence : ℕ
eid_fe_turbulence = 30

-- how many names `EId` declares: the largest tag byte
abbrev pub eid_count : ℕ
eid_count = 53

abbrev pub aid_amplitude : ℕ
aid_amplitude = 1

abbrev pub aid_azimuth : ℕ
aid_azimuth = 2

abbrev pub aid_base_frequency : ℕ
aid_base_frequency = 4

abbrev pub aid_bias : ℕ
aid_bias = 6

abbrev pub aid_color : ℕ
aid_color = 12

abbrev pub aid_color_interpolation_filters : ℕ
aid_color_interpolation_filters = 14

abbrev pub aid_diffuse_constant : ℕ
aid_diffuse_constant = 20

abbrev pub aid_divisor : ℕ
aid_divisor = 23

abbrev pub aid_dx : ℕ
aid_dx = 25

abbrev pub aid_dy : ℕ
aid_dy = 26

abbrev pub aid_edge_mode : ℕ
aid_edge_mode = 27

abbrev pub aid_elevation : ℕ
aid_elevation = 28

abbrev pub aid_exponent : ℕ
aid_exponent = 30

abbrev pub aid_flood_color : ℕ
aid_flood_color = 36

abbrev pub aid_flood_opacity : ℕ
aid_flood_opacity = 37

abbrev pub aid_height : ℕ
aid_height = 63

abbrev pub aid_in : ℕ
aid_in = 67

abbrev pub aid_in2 : ℕ
aid_in2 = 68

abbrev pub aid_intercept : ℕ
aid_intercept = 70

abbrev pub aid_k1 : ℕ
aid_k1 = 72

abbrev pub aid_k2 : ℕ
aid_k2 = 73

abbrev pub aid_k3 : ℕ
aid_k3 = 74

abbrev pub aid_k4 : ℕ
aid_k4 = 75

abbrev pub aid_kernel_matrix : ℕ
aid_kernel_matrix = 76

abbrev pub aid_lighting_color : ℕ
aid_lighting_color = 81

abbrev pub aid_limiting_cone_angle : ℕ
aid_limiting_cone_angle = 82

abbrev pub aid_mode : ℕ
aid_mode = 109

abbrev pub aid_num_octaves : ℕ
aid_num_octaves = 110

abbrev pub aid_offset : ℕ
aid_offset = 111

abbrev pub aid_operator : ℕ
aid_operator = 113

abbrev pub aid_order : ℕ
aid_order = 114

abbrev pub aid_points_at_x : ℕ
aid_points_at_x = 124

abbrev pub aid_points_at_y : ℕ
aid_points_at_y = 125

abbrev pub aid_points_at_z : ℕ
aid_points_at_z = 126

abbrev pub aid_preserve_alpha : ℕ
aid_preserve_alpha = 127

abbrev pub aid_radius : ℕ
aid_radius = 131

abbrev pub aid_result : ℕ
aid_result = 136

abbrev pub aid_scale : ℕ
aid_scale = 140

abbrev pub aid_seed : ℕ
aid_seed = 141

abbrev pub aid_slope : ℕ
aid_slope = 149

abbrev pub aid_specular_constant : ℕ
aid_specular_constant = 151

abbrev pub aid_specular_exponent : ℕ
aid_specular_exponent = 152

abbrev pub aid_std_deviation : ℕ
aid_std_deviation = 155

abbrev pub aid_stitch_tiles : ℕ
aid_stitch_tiles = 156

abbrev pub aid_surface_scale : ℕ
aid_surface_scale = 168

abbrev pub aid_table_values : ℕ
aid_table_values = 170

abbrev pub aid_target_x : ℕ
aid_target_x = 171

abbrev pub aid_target_y : ℕ
aid_target_y = 172

abbrev pub aid_type : ℕ
aid_type = 191

abbrev pub aid_values : ℕ
aid_values = 194

abbrev pub aid_width : ℕ
aid_width = 199

abbrev pub aid_x : ℕ
aid_x = 202

abbrev pub aid_x_channel_selector : ℕ
aid_x_channel_selector = 205

abbrev pub aid_y : ℕ
aid_y = 206

abbrev pub aid_y_channel_selector : ℕ
aid_y_channel_selector = 209

abbrev pub aid_z : ℕ
aid_z = 210
