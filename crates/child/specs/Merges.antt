-- How far the nodes go that a kind reads its inputs from. Apart from `Means`, which names Child, whose ghost field this is. Definitions only.
use Rattle.std.specs.Prelude.{ℕ, ◌+◌}
use Rattle.child.specs.declared.Kind.{Kind}
use Rattle.child.specs.declared.Kind.TheVariants as kind

-- the number of the node after those that a Merge reads its inputs from
abbrev pub merge_end : Kind → ℕ
merge_end (kind.Blend v) = 0
merge_end (kind.ColorMatrix v) = 0
merge_end (kind.ComponentTransfer v) = 0
merge_end (kind.Composite v) = 0
merge_end (kind.ConvolveMatrix v) = 0
merge_end (kind.DiffuseLighting v) = 0
merge_end (kind.DisplacementMap v) = 0
merge_end (kind.DropShadow v) = 0
merge_end (kind.Flood v) = 0
merge_end (kind.GaussianBlur v) = 0
merge_end (kind.Merge v) = v.first + v.count
merge_end (kind.Morphology v) = 0
merge_end (kind.Offset v) = 0
merge_end (kind.SpecularLighting v) = 0
merge_end (kind.Tile v) = 0
merge_end (kind.Turbulence v) = 0
