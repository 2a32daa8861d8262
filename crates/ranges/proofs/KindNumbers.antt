-- Every kind that `elements` makes of a node has no NaN and its numbers in range, given a sound scale and the node's flood colour and opacity; and
-- resolving its inputs leaves its numbers as they are. Each line joins the theorems of the kind's own crate. Assumes nothing.
use Rattle.tree.specs.declared.Turbulence.{Turbulence as TurbulenceFields}
use Rattle.tree.specs.declared.DisplacementMap.{DisplacementMap as DisplacementMapFields}
use Rattle.answer.specs.declared.Refusal.{Refusal}
use Rattle.tree.specs.declared.Morphology.{Morphology as MorphologyFields}
use Rattle.tree.specs.declared.SpecularLighting.{SpecularLighting as SpecularLightingFields}
use Rattle.tree.specs.declared.DiffuseLighting.{DiffuseLighting as DiffuseLightingFields}
use Rattle.std.specs.Prelude.{Err, None, Ok, Option, Result, Some}
use mathlib.Core.Path.{◌≡◌, sym}
use mathlib.Core.Bool.{true, false, true≢false}
use mathlib.Core.List.{List, [], ◌∷◌}
use lib.Dec.{T, leb}
use lib.Ieee.{Float, nan, inf, fin, lt}
use Rattle.names.specs.Ids.{aid_flood_opacity}
use Rattle.num.specs.Constants.{plus_zero, one}
use Rattle.num.specs.Sign.{opacity_in}
use Rattle.num.proofs.Laws.{finite_num, plus}
use Rattle.geom.specs.Geometry as geometry
use Rattle.svgtree.specs.Values.{Node}
use Rattle.tree.specs.Kinds.{Kind, Blend, ColorMatrix, ComponentTransfer, Composite, ConvolveMatrix, DiffuseLighting, DisplacementMap, DropShadow, Flood, GaussianBlur, Image, Merge, Morphology, Offset, SpecularLighting, Tile, Turbulence, ConvolveMatrixFields, map_kind}
use Rattle.child.specs.Child.{in_of}
use Rattle.region.specs.declared.Frame.{Frame}
use Rattle.subregion.specs.Subregions.{scale_of}
use Rattle.subregion.proofs.Numbers.{Positive}
use Rattle.fe.specs.Attributes.{number_or}
use Rattle.fe_blur.specs.GaussianBlur.{gaussian_blur_of}
use Rattle.fe_flood.specs.Flood.{flood_color, flood_of, transparent_black}
use Rattle.fe_blur.specs.Offset.{offset_fields_of}
use Rattle.fe_blur.specs.DropShadow.{drop_shadow_of}
use Rattle.fe.proofs.Numbers.{positive_num}
use Rattle.fe_flood.proofs.Opacity.{opacity_num}
use Rattle.fe_blur.proofs.Ranges.{gaussian_blur_range, offset_range, drop_shadow_range}
use Rattle.fe_flood.proofs.Ranges.{flood_range, transparent_black_range}
use Rattle.fe_color.specs.ColorMatrix.{color_matrix_kind_of}
use Rattle.fe_color.specs.ComponentTransfer.{component_transfer_of}
use Rattle.fe_color.specs.Composite.{composite_operator_of}
use Rattle.num.specs.Numbers.{IsNumber, Each}
use Rattle.fe_color.specs.Ranges.{color_matrix_numbers, component_transfer_numbers, operator_numbers}
use Rattle.num.proofs.Each.{each_num, each_append, ◌and◌}
use Rattle.fe_color.proofs.Numbers.{color_matrix_finite, color_matrix_range, component_transfer_finite, operator_finite}
use Rattle.fe_kernel.specs.ConvolveMatrix.{convolve_matrix_of}
use Rattle.fe_kernel.specs.ProofRanges.{ConvolveMatrixOk}
use Rattle.fe_kernel.proofs.Ranges.{convolve_matrix_ok}
use Rattle.fe_light.specs.DiffuseLighting.{diffuse_lighting_of}
use Rattle.fe_light.specs.SpecularLighting.{specular_lighting_of}
use Rattle.fe_light.specs.Ranges.{diffuse_numbers, specular_numbers}
use Rattle.fe_light.specs.ProofRanges.{DiffuseOk, SpecularOk}
use Rattle.fe_light.proofs.Ranges.{diffuse_ok, specular_ok}
use Rattle.fe_morphology.specs.Morphology.{morphology_of}
use Rattle.fe_displacement_map.specs.DisplacementMap.{displacement_map_of}
use Rattle.fe_turbulence.specs.Turbulence.{turbulence_of}
use Rattle.fe_morphology.specs.ProofRanges.{MorphologyOk}
use Rattle.fe_displacement_map.specs.ProofRanges.{DisplacementMapOk}
use Rattle.fe_turbulence.specs.ProofRanges.{TurbulenceOk}
use Rattle.fe_morphology.proofs.Ranges.{morphology_ok}
use Rattle.fe_displacement_map.proofs.Ranges.{displacement_map_ok}
use Rattle.fe_turbulence.proofs.Ranges.{turbulence_ok}
use Rattle.elements.specs.Elements.{ElementKind, made, elements, kind_of, convolve_made, diffuse_made, specular_made, morphology_made, displacement_made, turbulence_made}
use Rattle.ranges.specs.Numbers.{numbers_of_kind, InRange}
use Rattle.ranges.proofs.Children.{MadeAll, AnyRefusal, All, by_tag_lem}

-- ---- a kind

pub record KindSound {A : Type 0} (k : Kind A) : Type 0 where
  pub numbers : Each IsNumber (numbers_of_kind k)
  pub ranges : InRange k

-- inputs are no numbers
pub map_sound : {A B : Type 0} (f : A → B) (k : Kind A) → KindSound k → KindSound (map_kind f k)
unfolding map_kind
map_sound f (Blend a b v) h = record { numbers = h.numbers; ranges = h.ranges }
map_sound f (ColorMatrix a v) h = record { numbers = h.numbers; ranges = h.ranges }
map_sound f (ComponentTransfer a v) h = record { numbers = h.numbers; ranges = h.ranges }
map_sound f (Composite a b v) h = record { numbers = h.numbers; ranges = h.ranges }
map_sound f (ConvolveMatrix a v) h = record { numbers = h.numbers; ranges = h.ranges }
map_sound f (DiffuseLighting a v) h = record { numbers = h.numbers; ranges = h.ranges }
map_sound f (DisplacementMap a b v) h = record { numbers = h.numbers; ranges = h.ranges }
map_sound f (DropShadow a v) h = record { numbers = h.numbers; ranges = h.ranges }
map_sound f (Flood v) h = record { numbers = h.numbers; ranges = h.ranges }
map_sound f (GaussianBlur a v) h = record { numbers = h.numbers; ranges = h.ranges }
map_sound f (Image never) h = absurd never
map_sound f (Merge inputs) h = record { numbers = h.numbers; ranges = h.ranges }
map_sound f (Morphology a v) h = record { numbers = h.numbers; ranges = h.ranges }
map_sound f (Offset a v) h = record { numbers = h.numbers; ranges = h.ranges }
map_sound f (SpecularLighting a v) h = record { numbers = h.numbers; ranges = h.ranges }
map_sound f (Tile a) h = record { numbers = h.numbers; ranges = h.ranges }
map_sound f (Turbulence v) h = record { numbers = h.numbers; ranges = h.ranges }

-- ---- what an element gives; a refusal has no numbers

abbrev pub MadeSound : ElementKind → Type 0
MadeSound m = MadeAll KindSound AnyRefusal m

flood_sound : MadeSound (made (Flood transparent_black))
flood_sound = record { numbers = (opacity_num plus_zero transparent_black_range.opacity, tt); ranges = transparent_black_range }

convolve_sound : (n : Node) (o : Option ConvolveMatrixFields) → ConvolveMatrixOk o → MadeSound (convolve_made n o)
convolve_sound n None h = flood_sound
convolve_sound n (Some v) h =
    record {
      numbers = each_append IsNumber v.matrix.numbers (v.divisor ∷ v.bias ∷ []) (each_num v.matrix.numbers h.matrix.numbers) (h.divisor_number, (finite_num v.bias h.bias, tt));
      ranges = h;
    }

diffuse_sound : (n : Node) (m : Option DiffuseLightingFields) → DiffuseOk m → MadeSound (diffuse_made n m)
diffuse_sound n (Some v) h = record { numbers = each_num (diffuse_numbers v) h.numbers; ranges = h }
diffuse_sound n None h = flood_sound

specular_sound : (n : Node) (m : Option SpecularLightingFields) → SpecularOk m → MadeSound (specular_made n m)
specular_sound n (Some v) h = record { numbers = each_num (specular_numbers v) h.numbers; ranges = h }
specular_sound n None h = flood_sound

morphology_sound : (n : Node) (m : Result MorphologyFields Refusal) → MorphologyOk m → MadeSound (morphology_made n m)
morphology_sound n (Ok v) h = record { numbers = (positive_num v.radius_x h.radius_x, (positive_num v.radius_y h.radius_y, tt)); ranges = h }
morphology_sound n (Err why) h = tt

displacement_sound : (n : Node) (m : Result DisplacementMapFields Refusal) → DisplacementMapOk m → MadeSound (displacement_made n m)
displacement_sound n (Ok v) h = record { numbers = (h.scale, tt); ranges = tt }
displacement_sound n (Err why) h = tt

turbulence_sound : (m : Result TurbulenceFields Refusal) → TurbulenceOk m → MadeSound (turbulence_made m)
turbulence_sound (Ok v) h =
    record { numbers = (positive_num v.base_frequency_x h.frequency_x, (positive_num v.base_frequency_y h.frequency_y, tt)); ranges = h }
turbulence_sound (Err why) h = tt

-- ---- the elements, one line a tag

-- what the opacity of a flood needs of its node: an alpha of one byte and a flood-opacity in its range
pub record FloodOk (n : Node) : Type 0 where
  pub alpha : T (leb (flood_color n).alpha 255)
  pub opacity : T (opacity_in (number_or n aid_flood_opacity one))

above_plus : (x : Float) → lt geometry.zero_f32 x ≡ true → T (plus x)
unfolding lt
above_plus nan e = absurd (true≢false (sym e))
above_plus (inf false) e = tt
above_plus (inf true) e = absurd (true≢false (sym e))
above_plus (fin false m k) e = tt
above_plus (fin true m k) e = absurd (true≢false (sym e))

module _ (f : Frame) (n : Node) (children : List Node) (p : Positive (scale_of f)) (ok : FloodOk n) where
  drop_shadow_sound : MadeSound (made (DropShadow (in_of n) (drop_shadow_of n (scale_of f))))
  drop_shadow_sound =
      let v = drop_shadow_of n (scale_of f) in
      let r = drop_shadow_range n (scale_of f) p.width_finite p.height_finite ok.alpha ok.opacity in
      record {
        numbers = r.dx and r.dy and positive_num v.std_dev_x r.deviation_x and positive_num v.std_dev_y r.deviation_y and opacity_num v.opacity r.opacity and tt;
        ranges = r;
      }

  gaussian_blur_sound : MadeSound (made (GaussianBlur (in_of n) (gaussian_blur_of n (scale_of f))))
  gaussian_blur_sound =
      let v = gaussian_blur_of n (scale_of f) in
      let r = gaussian_blur_range n (scale_of f) in
      record { numbers = positive_num v.std_dev_x r.deviation_x and positive_num v.std_dev_y r.deviation_y and tt; ranges = r }

  offset_sound : MadeSound (made (Offset (in_of n) (offset_fields_of n (scale_of f))))
  offset_sound =
      let r = offset_range n (scale_of f) p.width_finite p.height_finite in
      record { numbers = r.dx and r.dy and tt; ranges = tt }

  flood_element_sound : MadeSound (made (Flood (flood_of n)))
  flood_element_sound =
      let r = flood_range n ok.alpha ok.opacity in
      record { numbers = opacity_num (flood_of n).opacity r.opacity and tt; ranges = r }

  elements_sound : All MadeSound tt (elements f n children)
  elements_sound =
      let scale = scale_of f in
      let w = above_plus scale.width p.width_positive in
      let h = above_plus scale.height p.height_positive in
      drop_shadow_sound
      and gaussian_blur_sound
      and offset_sound
      and record { numbers = tt; ranges = tt }
      and flood_element_sound
      and record { numbers = each_num (operator_numbers (composite_operator_of n)) (operator_finite n); ranges = tt }
      and record { numbers = tt; ranges = tt }
      and record { numbers = tt; ranges = tt }
      and record { numbers = each_num (component_transfer_numbers (component_transfer_of children)) (component_transfer_finite children); ranges = tt }
      and record { numbers = each_num (color_matrix_numbers (color_matrix_kind_of n)) (color_matrix_finite n); ranges = color_matrix_range n }
      and convolve_sound n (convolve_matrix_of n) (convolve_matrix_ok n)
      and morphology_sound n (morphology_of n scale) (morphology_ok n scale p.width_finite p.height_finite w h)
      and displacement_sound n (displacement_map_of n scale) (displacement_map_ok n scale p.width_finite p.height_finite w h)
      and turbulence_sound (turbulence_of n) (turbulence_ok n)
      and diffuse_sound n (diffuse_lighting_of n children) (diffuse_ok n children)
      and specular_sound n (specular_lighting_of n children) (specular_ok n children)
      and tt

  pub kind_sound : MadeSound (kind_of f n children)
  unfolding kind_of
  kind_sound = by_tag_lem MadeSound tt (elements f n children) n.tag elements_sound
