-- Demand 3 on the numbers of a list of primitives: "no number is NaN, and each named number is in its range". Definitions only.
use Rattle.std.specs.Prelude.{List, [], ◌∷◌, ◌++◌, Float}
use Rattle.geom.specs.Geometry.{width_of, height_of}
use Rattle.geom.specs.declared.Rect.{Rect}
use Rattle.tree.specs.Kinds.{Kind, Blend, ColorMatrix, ComponentTransfer, Composite, ConvolveMatrix, DiffuseLighting, DisplacementMap, DropShadow, Flood, GaussianBlur, Image, Merge, Morphology, Offset, SpecularLighting, Tile, Turbulence, Primitive}
use Rattle.fe_blur.specs.Ranges.{GaussianBlurRange, DropShadowRange}
use Rattle.fe_flood.specs.Ranges.{FloodRange}
use Rattle.num.specs.Numbers.{Each, IsNumber}
use Rattle.fe_color.specs.Ranges.{color_matrix_numbers, component_transfer_numbers, operator_numbers, ColorMatrixRange}
use Rattle.fe_kernel.specs.Ranges.{ConvolveMatrixRange}
use Rattle.fe_light.specs.Ranges.{diffuse_numbers, specular_numbers, DiffuseRange, SpecularRange}
use Rattle.fe_morphology.specs.Ranges.{MorphologyRange}
use Rattle.fe_turbulence.specs.Ranges.{TurbulenceRange}

-- ---- "A number in the list is any f32 in it": in the order in which they are written

abbrev pub numbers_of_kind : {A : Type 0} → Kind A → List Float
numbers_of_kind (Blend a b v) = []
numbers_of_kind (ColorMatrix a v) = color_matrix_numbers v
numbers_of_kind (ComponentTransfer a v) = component_transfer_numbers v
numbers_of_kind (Composite a b v) = operator_numbers v
numbers_of_kind (ConvolveMatrix a v) = v.matrix.numbers ++ (v.divisor ∷ v.bias ∷ [])
numbers_of_kind (DiffuseLighting a v) = diffuse_numbers v
numbers_of_kind (DisplacementMap a b v) = v.scale ∷ []
numbers_of_kind (DropShadow a v) = v.dx ∷ v.dy ∷ v.std_dev_x ∷ v.std_dev_y ∷ v.opacity ∷ []
numbers_of_kind (Flood v) = v.opacity ∷ []
numbers_of_kind (GaussianBlur a v) = v.std_dev_x ∷ v.std_dev_y ∷ []
numbers_of_kind (Image never) = []
numbers_of_kind (Merge inputs) = []
numbers_of_kind (Morphology a v) = v.radius_x ∷ v.radius_y ∷ []
numbers_of_kind (Offset a v) = v.dx ∷ v.dy ∷ []
numbers_of_kind (SpecularLighting a v) = specular_numbers v
numbers_of_kind (Tile a) = []
numbers_of_kind (Turbulence v) = v.base_frequency_x ∷ v.base_frequency_y ∷ []

-- x, y, width, height
abbrev pub rect_numbers : Rect → List Float
rect_numbers r = r.left ∷ r.top ∷ width_of r ∷ height_of r ∷ []

abbrev pub primitive_numbers : Primitive → List Float
primitive_numbers p = rect_numbers p.rect ++ numbers_of_kind p.kind

unfoldable pub list_numbers : List Primitive → List Float
list_numbers [] = []
list_numbers (p ∷ ps) = primitive_numbers p ++ list_numbers ps

-- ---- "Ranges: a kernel holds columns × rows numbers with its target inside; a divisor isn't near zero; radius, deviation and a spot light's exponent
-- are positive as above; specular lighting's exponent is 1 to 128; opacity 0 to 1. Gamma's exponent is free." Each is said in the crate of its element.
-- Ranges that the sentence does not name hold too: of a colour matrix's count, of a saturation and of base frequencies.

abbrev pub InRange : {A : Type 0} → Kind A → Type 0
InRange (Blend a b v) = Unit {0}
InRange (ColorMatrix a v) = ColorMatrixRange v
InRange (ComponentTransfer a v) = Unit {0}
InRange (Composite a b v) = Unit {0}
InRange (ConvolveMatrix a v) = ConvolveMatrixRange v
InRange (DiffuseLighting a v) = DiffuseRange v
InRange (DisplacementMap a b v) = Unit {0}
InRange (DropShadow a v) = DropShadowRange v
InRange (Flood v) = FloodRange v
InRange (GaussianBlur a v) = GaussianBlurRange v
InRange (Image never) = Unit {0}
InRange (Merge inputs) = Unit {0}
InRange (Morphology a v) = MorphologyRange v
InRange (Offset a v) = Unit {0}
InRange (SpecularLighting a v) = SpecularRange v
InRange (Tile a) = Unit {0}
InRange (Turbulence v) = TurbulenceRange v

unfoldable pub AllInRange : List Primitive → Type 0
AllInRange [] = Unit {0}
AllInRange (p ∷ ps) = InRange p.kind × AllInRange ps

-- ---- the claim

pub record Sound (ps : List Primitive) : Type 0 where
  pub numbers : Each IsNumber (list_numbers ps)
  pub ranges : AllInRange ps
