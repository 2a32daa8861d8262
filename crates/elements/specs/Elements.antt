-- What `collect_children` makes of an element, by its tag: its kind, with the inputs as they are read. Definitions only.
use Rattle.tree.specs.declared.SpecularLighting.{SpecularLighting as SpecularLightingFields}
use Rattle.tree.specs.declared.DiffuseLighting.{DiffuseLighting as DiffuseLightingFields}
use Rattle.tree.specs.declared.Turbulence.{Turbulence as TurbulenceFields}
use Rattle.tree.specs.declared.DisplacementMap.{DisplacementMap as DisplacementMapFields}
use Rattle.tree.specs.declared.Morphology.{Morphology as MorphologyFields}
use Rattle.std.specs.Prelude.{ℕ, cond, List, [], ◌∷◌, map, eqb, Err, None, Ok, Option, Result, Some}
use Rattle.answer.specs.declared.Refusal.{Refusal}
use Rattle.names.specs.Ids.{eid_fe_blend, eid_fe_color_matrix, eid_fe_component_transfer, eid_fe_composite, eid_fe_convolve_matrix, eid_fe_diffuse_lighting}
use Rattle.names.specs.Ids.{eid_fe_displacement_map, eid_fe_drop_shadow, eid_fe_flood, eid_fe_gaussian_blur, eid_fe_merge, eid_fe_morphology, eid_fe_offset}
use Rattle.names.specs.Ids.{eid_fe_specular_lighting, eid_fe_tile, eid_fe_turbulence, aid_in2}
use Rattle.svgtree.specs.Values.{Node}
use Rattle.svgtree.specs.Readers.{text_of}
use Rattle.tree.specs.Input.{Name}
use Rattle.tree.specs.Kinds.{Kind, Blend, ColorMatrix, ComponentTransfer, Composite, ConvolveMatrix, DiffuseLighting, DisplacementMap, DropShadow, Flood}
use Rattle.tree.specs.Kinds.{ConvolveMatrixFields, GaussianBlur, Merge, Morphology, Offset, SpecularLighting, Tile, Turbulence}
use Rattle.child.specs.Child.{in_of}
use Rattle.region.specs.declared.Frame.{Frame}
use Rattle.subregion.specs.Subregions.{scale_of}
use Rattle.fe_color.specs.Blend.{mode_of}
use Rattle.fe_color.specs.ColorMatrix.{color_matrix_kind_of}
use Rattle.fe_color.specs.ComponentTransfer.{component_transfer_of}
use Rattle.fe_color.specs.Composite.{composite_operator_of}
use Rattle.fe_blur.specs.GaussianBlur.{gaussian_blur_of}
use Rattle.fe_flood.specs.Flood.{flood_of, transparent_black}
use Rattle.fe_blur.specs.Offset.{offset_fields_of}
use Rattle.fe_blur.specs.DropShadow.{drop_shadow_of}
use Rattle.fe_light.specs.DiffuseLighting.{diffuse_lighting_of}
use Rattle.fe_light.specs.SpecularLighting.{specular_lighting_of}
use Rattle.fe_kernel.specs.ConvolveMatrix.{convolve_matrix_of}
use Rattle.fe_morphology.specs.Morphology.{morphology_of}
use Rattle.fe_displacement_map.specs.DisplacementMap.{displacement_map_of}
use Rattle.fe_turbulence.specs.Turbulence.{turbulence_of}

-- what an element gives: a kind; nothing, where no primitive is made of its tag; or a refusal
pub data ElementKind : Type 0 where
  made : Kind (Option Name) → ElementKind
  no_primitive : ElementKind
  refused : Refusal → ElementKind

-- the second input of a node
abbrev pub in2_of : Node → Option Name
in2_of n = text_of n aid_in2

-- the transparent black flood stands for a lighting or a kernel that cannot be drawn
abbrev pub flood_made : ElementKind
flood_made = made (Flood transparent_black)

abbrev pub diffuse_made : Node → Option DiffuseLightingFields → ElementKind
diffuse_made n (Some v) = made (DiffuseLighting (in_of n) v)
diffuse_made n None = flood_made

abbrev pub specular_made : Node → Option SpecularLightingFields → ElementKind
specular_made n (Some v) = made (SpecularLighting (in_of n) v)
specular_made n None = flood_made

abbrev pub convolve_made : Node → Option ConvolveMatrixFields → ElementKind
convolve_made n (Some v) = made (ConvolveMatrix (in_of n) v)
convolve_made n None = flood_made

abbrev pub morphology_made : Node → Result MorphologyFields Refusal → ElementKind
morphology_made n (Ok v) = made (Morphology (in_of n) v)
morphology_made n (Err why) = refused why

abbrev pub displacement_made : Node → Result DisplacementMapFields Refusal → ElementKind
displacement_made n (Ok v) = made (DisplacementMap (in_of n) (in2_of n) v)
displacement_made n (Err why) = refused why

abbrev pub turbulence_made : Result TurbulenceFields Refusal → ElementKind
turbulence_made (Ok v) = made (Turbulence v)
turbulence_made (Err why) = refused why

infixl 6 ◌gives◌
-- a tag, and what an element with that tag gives
pub data Tagged : Type 0 where
  ◌gives◌ : ℕ → ElementKind → Tagged

unfoldable pub by_tag : List Tagged → ℕ → ElementKind
by_tag [] tag = no_primitive
by_tag ((t gives m) ∷ rest) tag = cond (eqb tag t) m (by_tag rest tag)

-- every element that a primitive is made of; lengths and offsets are scaled by the box's size in box units. feMerge: the document has an input for each
-- feMergeNode, the crate one for each child, of any tag or none
abbrev pub elements : Frame → Node → List Node → List Tagged
elements frame n children =
    (eid_fe_drop_shadow gives made (DropShadow (in_of n) (drop_shadow_of n (scale_of frame))))
    ∷ (eid_fe_gaussian_blur gives made (GaussianBlur (in_of n) (gaussian_blur_of n (scale_of frame))))
    ∷ (eid_fe_offset gives made (Offset (in_of n) (offset_fields_of n (scale_of frame))))
    ∷ (eid_fe_blend gives made (Blend (in_of n) (in2_of n) (mode_of n)))
    ∷ (eid_fe_flood gives made (Flood (flood_of n)))
    ∷ (eid_fe_composite gives made (Composite (in_of n) (in2_of n) (composite_operator_of n)))
    ∷ (eid_fe_merge gives made (Merge (map in_of children)))
    ∷ (eid_fe_tile gives made (Tile (in_of n)))
    ∷ (eid_fe_component_transfer gives made (ComponentTransfer (in_of n) (component_transfer_of children)))
    ∷ (eid_fe_color_matrix gives made (ColorMatrix (in_of n) (color_matrix_kind_of n)))
    ∷ (eid_fe_convolve_matrix gives convolve_made n (convolve_matrix_of n))
    ∷ (eid_fe_morphology gives morphology_made n (morphology_of n (scale_of frame)))
    ∷ (eid_fe_displacement_map gives displacement_made n (displacement_map_of n (scale_of frame)))
    ∷ (eid_fe_turbulence gives turbulence_made (turbulence_of n))
    ∷ (eid_fe_diffuse_lighting gives diffuse_made n (diffuse_lighting_of n children))
    ∷ (eid_fe_specular_lighting gives specular_made n (specular_lighting_of n children))
    ∷ []

-- an element and its children
unfoldable pub kind_of : Frame → Node → List Node → ElementKind
kind_of frame n children = by_tag (elements frame n children) n.tag
