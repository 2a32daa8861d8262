-- What a kind's head and its other fields are together: the kind's bytes, of each kind whose fields are written as one value. Assumes nothing.
use mathlib.Core.Path.{◌≡◌, refl}
use mathlib.Core.List.{[], ◌∷◌, ◌++◌}
use Rattle.tree.specs.Input.{SourceGraphic, input_bytes}
use Rattle.tree.specs.Kinds.{ColorMatrixKind, ComponentTransferFields, ColorMatrix, ComponentTransfer, GaussianBlur, DropShadow}
use Rattle.tree.specs.declared.KindName.TheVariants as name
use Rattle.tree.specs.declared.GaussianBlur.{GaussianBlur as GaussianBlurFields}
use Rattle.tree.specs.declared.DropShadow.{DropShadow as DropShadowFields}
use Rattle.tree.specs.Fields.{color_matrix_kind_bytes, component_transfer_bytes, gaussian_blur_bytes, drop_shadow_bytes}
use Rattle.tree.specs.Places.{kind_name_place}
use Rattle.tree.specs.List.{kind_bytes}

pub color_matrix : (v : ColorMatrixKind) → (kind_name_place name.ColorMatrix ∷ []) ++ input_bytes SourceGraphic ++ color_matrix_kind_bytes v ≡ kind_bytes (ColorMatrix SourceGraphic v)
unfolding kind_bytes
color_matrix v = refl

pub component_transfer : (v : ComponentTransferFields)
    → (kind_name_place name.ComponentTransfer ∷ []) ++ input_bytes SourceGraphic ++ component_transfer_bytes v ≡ kind_bytes (ComponentTransfer SourceGraphic v)
unfolding kind_bytes
component_transfer v = refl

pub gaussian_blur : (v : GaussianBlurFields)
    → (kind_name_place name.GaussianBlur ∷ []) ++ input_bytes SourceGraphic ++ gaussian_blur_bytes v ≡ kind_bytes (GaussianBlur SourceGraphic v)
unfolding kind_bytes
gaussian_blur v = refl

pub drop_shadow : (v : DropShadowFields) → (kind_name_place name.DropShadow ∷ []) ++ input_bytes SourceGraphic ++ drop_shadow_bytes v ≡ kind_bytes (DropShadow SourceGraphic v)
unfolding kind_bytes
drop_shadow v = refl
