-- "an enum as its place in the declaration": the enums whose cases hold nothing, and the kinds. Definitions only.
use Rattle.std.specs.Prelude.{ℕ, ◌≡◌, ◌<◌, ◌⊎◌, Result, MatchResult}
use Rattle.tree.specs.declared.ColorInterpolation.{ColorInterpolation}
use Rattle.tree.specs.declared.ColorInterpolation.TheVariants.{SRGB, LinearRGB}
use Rattle.tree.specs.declared.BlendMode.{BlendMode}
use Rattle.tree.specs.declared.BlendMode.TheVariants.{Normal, Multiply, Screen, Overlay, Darken, Lighten, ColorDodge, ColorBurn, HardLight, SoftLight, Difference, Exclusion, Hue, Saturation, Color, Luminosity}
use Rattle.tree.specs.declared.EdgeMode.{EdgeMode}
use Rattle.tree.specs.declared.EdgeMode.TheVariants.{None, Duplicate, Wrap}
use Rattle.tree.specs.declared.ColorChannel.{ColorChannel}
use Rattle.tree.specs.declared.ColorChannel.TheVariants.{R, G, B, A}
use Rattle.tree.specs.declared.MorphologyOperator.{MorphologyOperator}
use Rattle.tree.specs.declared.MorphologyOperator.TheVariants.{Erode, Dilate}
use Rattle.tree.specs.declared.TurbulenceKind.{TurbulenceKind}
use Rattle.tree.specs.declared.TurbulenceKind.TheVariants.{FractalNoise, Turbulence}
use Rattle.tree.specs.declared.KindName.{KindName}
use Rattle.tree.specs.declared.KindName.TheVariants as name
use Rattle.tree.specs.declared.UnknownKind.{UnknownKind}
use Rattle.tree.specs.Kinds as kind
use Rattle.tree.specs.Kinds.{Kind}

abbrev pub color_interpolation_place : ColorInterpolation → ℕ
color_interpolation_place SRGB = 0
color_interpolation_place LinearRGB = 1

-- "Blend modes from 0: normal, multiply, screen, .."
abbrev pub blend_mode_place : BlendMode → ℕ
blend_mode_place Normal = 0
blend_mode_place Multiply = 1
blend_mode_place Screen = 2
blend_mode_place Overlay = 3
blend_mode_place Darken = 4
blend_mode_place Lighten = 5
blend_mode_place ColorDodge = 6
blend_mode_place ColorBurn = 7
blend_mode_place HardLight = 8
blend_mode_place SoftLight = 9
blend_mode_place Difference = 10
blend_mode_place Exclusion = 11
blend_mode_place Hue = 12
blend_mode_place Saturation = 13
blend_mode_place Color = 14
blend_mode_place Luminosity = 15

abbrev pub edge_mode_place : EdgeMode → ℕ
edge_mode_place None = 0
edge_mode_place Duplicate = 1
edge_mode_place Wrap = 2

abbrev pub color_channel_place : ColorChannel → ℕ
color_channel_place R = 0
color_channel_place G = 1
color_channel_place B = 2
color_channel_place A = 3

abbrev pub morphology_operator_place : MorphologyOperator → ℕ
morphology_operator_place Erode = 0
morphology_operator_place Dilate = 1

abbrev pub turbulence_kind_place : TurbulenceKind → ℕ
turbulence_kind_place FractalNoise = 0
turbulence_kind_place Turbulence = 1

abbrev pub kind_place : {A : Type 0} → Kind A → ℕ
kind_place (kind.Blend a b v) = 0
kind_place (kind.ColorMatrix a v) = 1
kind_place (kind.ComponentTransfer a v) = 2
kind_place (kind.Composite a b v) = 3
kind_place (kind.ConvolveMatrix a v) = 4
kind_place (kind.DiffuseLighting a v) = 5
kind_place (kind.DisplacementMap a b v) = 6
kind_place (kind.DropShadow a v) = 7
kind_place (kind.Flood v) = 8
kind_place (kind.GaussianBlur a v) = 9
kind_place (kind.Image never) = 10
kind_place (kind.Merge inputs) = 11
kind_place (kind.Morphology a v) = 12
kind_place (kind.Offset a v) = 13
kind_place (kind.SpecularLighting a v) = 14
kind_place (kind.Tile a) = 15
kind_place (kind.Turbulence v) = 16

-- the same by the name alone
abbrev pub kind_name_place : KindName → ℕ
kind_name_place name.Blend = 0
kind_name_place name.ColorMatrix = 1
kind_name_place name.ComponentTransfer = 2
kind_name_place name.Composite = 3
kind_name_place name.ConvolveMatrix = 4
kind_name_place name.DiffuseLighting = 5
kind_name_place name.DisplacementMap = 6
kind_name_place name.DropShadow = 7
kind_name_place name.Flood = 8
kind_name_place name.GaussianBlur = 9
kind_name_place name.Merge = 11
kind_name_place name.Morphology = 12
kind_name_place name.Offset = 13
kind_name_place name.SpecularLighting = 14
kind_name_place name.Tile = 15
kind_name_place name.Turbulence = 16

-- the name at a place, or an error with a byte that is Image's place or behind them all
abbrev pub NamedAt : ℕ → Result KindName UnknownKind → Type 0
NamedAt place r = MatchResult r (λ name. kind_name_place name ≡ place) (λ e. (e.0 ≡ place) × ((place ≡ 10) ⊎ (16 < place)))
