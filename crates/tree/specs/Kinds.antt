-- `Kind` and `Primitive` of tree/filter.rs as values. A Vec of numbers is a list of them, a text its bytes. Definitions only.
-- A type that holds neither is the code's own. There a struct of the source stands without its inputs, which come first in each.
use Rattle.std.specs.Prelude.{ℕ, List, [], ◌∷◌, map, Bool, Float}
use Rattle.geom.specs.declared.Rect.{Rect}
use Rattle.num.specs.Constants.{one, plus_zero as zero}
use Rattle.tree.specs.Input.{Name, Input}
use Rattle.tree.specs.declared.ColorInterpolation.{ColorInterpolation}
use Rattle.tree.specs.declared.BlendMode.{BlendMode}
use Rattle.tree.specs.declared.CompositeOperator.{CompositeOperator}
use Rattle.tree.specs.declared.EdgeMode.{EdgeMode}
use Rattle.tree.specs.declared.DiffuseLighting.{DiffuseLighting as DiffuseLightingFields}
use Rattle.tree.specs.declared.DisplacementMap.{DisplacementMap as DisplacementMapFields}
use Rattle.tree.specs.declared.DropShadow.{DropShadow as DropShadowFields}
use Rattle.tree.specs.declared.Flood.{Flood as FloodFields}
use Rattle.tree.specs.declared.GaussianBlur.{GaussianBlur as GaussianBlurFields}
use Rattle.tree.specs.declared.Morphology.{Morphology as MorphologyFields}
use Rattle.tree.specs.declared.Offset.{Offset as OffsetFields}
use Rattle.tree.specs.declared.SpecularLighting.{SpecularLighting as SpecularLightingFields}
use Rattle.tree.specs.declared.Turbulence.{Turbulence as TurbulenceFields}

pub data ColorMatrixKind : Type 0 where
  Matrix : List Float → ColorMatrixKind
  Saturate : Float → ColorMatrixKind
  HueRotate : Float → ColorMatrixKind
  LuminanceToAlpha : ColorMatrixKind

-- Linear has slope and intercept, Gamma amplitude, exponent and offset
pub data TransferFunction : Type 0 where
  Identity : TransferFunction
  Table : List Float → TransferFunction
  Discrete : List Float → TransferFunction
  Linear : Float → Float → TransferFunction
  Gamma : Float → Float → Float → TransferFunction

pub record ComponentTransferFields : Type 0 where
  pub func_r : TransferFunction
  pub func_g : TransferFunction
  pub func_b : TransferFunction
  pub func_a : TransferFunction

pub record ConvolveMatrixData : Type 0 where
  pub target_x : ℕ
  pub target_y : ℕ
  pub columns : ℕ
  pub rows : ℕ
  pub numbers : List Float

pub record ConvolveMatrixFields : Type 0 where
  pub matrix : ConvolveMatrixData
  pub divisor : Float
  pub bias : Float
  pub edge_mode : EdgeMode
  pub preserve_alpha : Bool

-- A kind over the type of its inputs, in the order of the declaration: its inputs, and then its other fields. Image stands at its place and is
-- never made, since nothing proves ⊥: a sheet with an feImage gets no list.
pub data Kind (A : Type 0) : Type 0 where
  Blend : A → A → BlendMode → Kind A
  ColorMatrix : A → ColorMatrixKind → Kind A
  ComponentTransfer : A → ComponentTransferFields → Kind A
  Composite : A → A → CompositeOperator → Kind A
  ConvolveMatrix : A → ConvolveMatrixFields → Kind A
  DiffuseLighting : A → DiffuseLightingFields → Kind A
  DisplacementMap : A → A → DisplacementMapFields → Kind A
  DropShadow : A → DropShadowFields → Kind A
  Flood : FloodFields → Kind A
  GaussianBlur : A → GaussianBlurFields → Kind A
  Image : ⊥ → Kind A
  Merge : List A → Kind A
  Morphology : A → MorphologyFields → Kind A
  Offset : A → OffsetFields → Kind A
  SpecularLighting : A → SpecularLightingFields → Kind A
  Tile : A → Kind A
  Turbulence : TurbulenceFields → Kind A

pub record Primitive : Type 0 where
  pub rect : Rect
  pub color_interpolation : ColorInterpolation
  pub result : Name
  pub kind : Kind Input

-- the same kind with other inputs
unfoldable pub map_kind : {A B : Type 0} → (A → B) → Kind A → Kind B
map_kind f (Blend a b v) = Blend (f a) (f b) v
map_kind f (ColorMatrix a v) = ColorMatrix (f a) v
map_kind f (ComponentTransfer a v) = ComponentTransfer (f a) v
map_kind f (Composite a b v) = Composite (f a) (f b) v
map_kind f (ConvolveMatrix a v) = ConvolveMatrix (f a) v
map_kind f (DiffuseLighting a v) = DiffuseLighting (f a) v
map_kind f (DisplacementMap a b v) = DisplacementMap (f a) (f b) v
map_kind f (DropShadow a v) = DropShadow (f a) v
map_kind f (Flood v) = Flood v
map_kind f (GaussianBlur a v) = GaussianBlur (f a) v
map_kind f (Image never) = Image never
map_kind f (Merge inputs) = Merge (map f inputs)
map_kind f (Morphology a v) = Morphology (f a) v
map_kind f (Offset a v) = Offset (f a) v
map_kind f (SpecularLighting a v) = SpecularLighting (f a) v
map_kind f (Tile a) = Tile (f a)
map_kind f (Turbulence v) = Turbulence v

-- the inputs of a kind: none, one, two, or a Vec of them
pub data Inputs (A : Type 0) : Type 0 where
  Nothing : Inputs A
  One : A → Inputs A
  Two : A → A → Inputs A
  Vec : List A → Inputs A

-- "`in`, `in2`, or each feMerge child's `in`, in order; a flood or turbulence has none"
abbrev pub inputs_in : {A : Type 0} → Kind A → Inputs A
inputs_in (Blend a b v) = Two a b
inputs_in (ColorMatrix a v) = One a
inputs_in (ComponentTransfer a v) = One a
inputs_in (Composite a b v) = Two a b
inputs_in (ConvolveMatrix a v) = One a
inputs_in (DiffuseLighting a v) = One a
inputs_in (DisplacementMap a b v) = Two a b
inputs_in (DropShadow a v) = One a
inputs_in (Flood v) = Nothing
inputs_in (GaussianBlur a v) = One a
inputs_in (Image never) = Nothing
inputs_in (Merge inputs) = Vec inputs
inputs_in (Morphology a v) = One a
inputs_in (Offset a v) = One a
inputs_in (SpecularLighting a v) = One a
inputs_in (Tile a) = One a
inputs_in (Turbulence v) = Nothing

abbrev pub input_list : {A : Type 0} → Inputs A → List A
input_list Nothing = []
input_list (One a) = a ∷ []
input_list (Two a b) = a ∷ b ∷ []
input_list (Vec inputs) = inputs

unfoldable pub inputs_of : {A : Type 0} → Kind A → List A
inputs_of k = input_list (inputs_in k)

-- the matrix that changes nothing, a row of five for each of red, green, blue and alpha
unfoldable pub identity_matrix : List Float
identity_matrix =
    one ∷ zero ∷ zero ∷ zero ∷ zero
    ∷ zero ∷ one ∷ zero ∷ zero ∷ zero
    ∷ zero ∷ zero ∷ one ∷ zero ∷ zero
    ∷ zero ∷ zero ∷ zero ∷ one ∷ zero
    ∷ []
