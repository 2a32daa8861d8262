-- The lengths of the fields' bytes, which the arms of the code are proved by.
use Rattle.tree.proofs.Lengths.{length-color_matrix_kind, length_component_transfer, length-composite_operator, length_convolve_matrix, length_diffuse_lighting, length_displacement_map, length-drop_shadow, length_flood, length_gaussian_blur, length_morphology, length_offset, length_specular_lighting, length_turbulence}

pub ruleset sizes = (length-color_matrix_kind, length_component_transfer, length-composite_operator, length_convolve_matrix, length_diffuse_lighting, length_displacement_map, length-drop_shadow, length_flood, length_gaussian_blur, length_morphology, length_offset, length_specular_lighting, length_turbulence)
