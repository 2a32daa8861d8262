-- The list of primitives is read back from its bytes. Assumes nothing.
use Rattle.std.specs.Prelude.{None, Option, Some}
use Prim.Native.Nat.{ℕ, ◌<◌, ◌≤◌}
use native.Mathlib.Omega.{arith}
use mathlib.Core.Path.{◌≡◌, refl, sym, ap}
use mathlib.Core.Bool.{Bool, true, false}
use mathlib.Core.List.{List, [], ◌∷◌, map, map-append}
use borrow.Author.Tests.{le-leb}
use lib.ListN.{length, length-map}
use Rattle.bits.specs.Bytes.{bytes32}
use Rattle.geom.specs.declared.Rect.{Rect}
use Rattle.tree.specs.declared.ColorInterpolation.{ColorInterpolation}
use Rattle.tree.specs.declared.ColorInterpolation.TheVariants.{SRGB, LinearRGB}
use Rattle.tree.specs.Scalars.{rect_bytes}
use Rattle.tree.specs.Places.{color_interpolation_place, kind_place}
use Rattle.tree.specs.Fields.{field_bytes}
use Rattle.tree.specs.Input.{Input}
use Rattle.tree.specs.Kinds.{Kind, Blend, ColorMatrix, ComponentTransfer, Composite, ConvolveMatrix, DiffuseLighting, DisplacementMap, DropShadow, Flood, GaussianBlur, Image, Merge, Morphology, Offset, SpecularLighting, Tile, Turbulence, Primitive, inputs_of}
use Rattle.tree.specs.List as list
use Rattle.tree.proofs.Lengths.{length_rect}
use Rattle.ranges.specs.Numbers as ranges
use Rattle.list_read.specs.Read.{got, read32, read_many}
use Rattle.list_read.specs.Layout.{Layout, layout_of, at_end}
use Rattle.list_read.specs.Records.{form1}
use Rattle.list_read.specs.Write.{arity_fits, InLayout, AllInLayout}
use Rattle.list_read.specs.Lists.{read_list}
use Rattle.list_read.specs.Patterns.{walk_kind, patterns_in, record_patterns, list_patterns}
use Rattle.list_read.specs.declared.ListForm.TheVariants.{One}
use Rattle.list_read.proofs.Inverse.{read_written}
use Rattle.list_read_back.specs.Reading.{list_record_of}
use Rattle.list_read_back.specs.Within.{KindWithin, Within, AllWithin}
use Rattle.list_read_back.proofs.Same.{list_same}
use Rattle.list_read_back.proofs.Walks.{pattern_of, kind_walk}

abbrev arity_is : Option Layout → ℕ → Bool
arity_is None n = false
arity_is (Some l) n = arity_fits l.inputs n

arity_is_lem : (k : Kind Input) → KindWithin k → arity_is (layout_of (kind_place k)) (length (inputs_of k)) ≡ true
unfolding layout_of inputs_of
arity_is_lem (Blend a b v) h = refl
arity_is_lem (ColorMatrix a v) h = refl
arity_is_lem (ComponentTransfer a v) h = refl
arity_is_lem (Composite a b v) h = refl
arity_is_lem (ConvolveMatrix a v) h = refl
arity_is_lem (DiffuseLighting a v) h = refl
arity_is_lem (DisplacementMap a b v) h = refl
arity_is_lem (DropShadow a v) h = refl
arity_is_lem (Flood v) h = refl
arity_is_lem (GaussianBlur a v) h = refl
arity_is_lem (Image never) h = absurd never
arity_is_lem (Merge inputs) h = le-leb (length inputs) 511 h
arity_is_lem (Morphology a v) h = refl
arity_is_lem (Offset a v) h = refl
arity_is_lem (SpecularLighting a v) h = refl
arity_is_lem (Tile a) h = refl
arity_is_lem (Turbulence v) h = refl

color_small : (c : ColorInterpolation) → color_interpolation_place c < 2
color_small SRGB = omega arith
color_small LinearRGB = omega arith

module _ (p : Primitive) (w : Within p) where
  inside_by : (o : Option Layout) → layout_of (kind_place p.kind) ≡ o → walk_kind o (field_bytes p.kind) ≡ got (map pattern_of (ranges.numbers_of_kind p.kind)) [] → arity_is o (length (inputs_of p.kind)) ≡ true → InLayout form1 (list_record_of p)
  inside_by None e h a = cc
  inside_by (Some l) e h a =
      record {
        layout = l;
        known = e;
        rect = length_rect p.rect;
        color = color_small p.color_interpolation;
        result = w.name;
        arity = a;
        inputs = w.inputs;
        fields = ap at_end h;
      }

  inside : InLayout form1 (list_record_of p)
  inside = inside_by (layout_of (kind_place p.kind)) refl (kind_walk p.kind w.counts) (arity_is_lem p.kind w.counts)

all_inside : (ps : List Primitive) → AllWithin ps → AllInLayout form1 (map list_record_of ps)
unfolding AllWithin AllInLayout
all_inside [] w = tt
all_inside (p ∷ ps) w = (inside p w.0, all_inside ps w.1)

-- the list's bytes are read back, as the records of its primitives
pub read_back : (ps : List Primitive) → length ps ≤ 512 → AllWithin ps → read_list form1 (list.list_bytes ps) ≡ got (map list_record_of ps) []
read_back ps few w =
    rw (← list_same ps) (read_written One (map list_record_of ps) (record { few = rw (length-map ps list_record_of) few; each = all_inside ps w }))

-- the patterns of its f32, as the reader finds them

rect_numbers_lem : (r : Rect) → patterns_in (read_many read32 4 (rect_bytes r)) ≡ map pattern_of (ranges.rect_numbers r)
unfolding read_many read32 rect_bytes bytes32
rect_numbers_lem r = refl

record_numbers : (p : Primitive) → Within p → record_patterns (list_record_of p) ≡ map pattern_of (ranges.primitive_numbers p)
record_numbers p w =
    rw (rect_numbers_lem p.rect, kind_walk p.kind w.counts) (sym (map-append pattern_of (ranges.rect_numbers p.rect) (ranges.numbers_of_kind p.kind)))

pub list_numbers_lem : (ps : List Primitive) → AllWithin ps → list_patterns (map list_record_of ps) ≡ map pattern_of (ranges.list_numbers ps)
unfolding list_patterns ranges.list_numbers AllWithin
list_numbers_lem [] w = refl
list_numbers_lem (p ∷ ps) w = rw (record_numbers p w.0, list_numbers_lem ps w.1) (sym (map-append pattern_of (ranges.primitive_numbers p) (ranges.list_numbers ps)))
