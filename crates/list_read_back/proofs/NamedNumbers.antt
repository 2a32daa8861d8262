-- The ranges of a primitive's numbers are those of the record that is read of it: the f32 of its fields are its kind's numbers, in order. Assumes
-- nothing.
use Prim.Native.Nat.{ℕ, ◌+◌, ◌*◌, ◌<◌, ◌≤◌}
use native.Mathlib.Omega.{arith}
use native.Mathlib.Nat.{le-mul_of_pos_right, mul_comm}
use mathlib.Core.Path.{◌≡◌, refl, ap, ◌∙◌}
use mathlib.Core.Bool.{true, ◌&&◌}
use mathlib.Core.List.{List, [], ◌∷◌, ◌++◌, map, append_assoc}
use borrow.Author.Tests.{eq-eqb, lt-ltb}
use lib.Dec.{T}
use lib.ListN.{length, length-append}
use lib.Seq.{get_or-append-add}
use lib.Ieee.{Float, binary32, of_bits}
use lib.Ieee.Bits.{is_true}
use Rattle.std.proofs.lemmas.Bool.{and_from}
use Rattle.std.proofs.lemmas.Float.{T_from_true}
use Rattle.num.specs.Constants.{plus_zero}
use Rattle.bits.specs.Bytes.{bytes32, bytes_f}
use Rattle.num.specs.Sign.{positive, opacity_in}
use Rattle.tree.specs.Input as tree
use Rattle.tree.specs.Scalars.{bool_byte, numbers_bytes}
use Rattle.tree.specs.Places.{edge_mode_place, kind_place}
use Rattle.tree.specs.Fields.{convolve_matrix_data_bytes, convolve_matrix_bytes, field_bytes}
use Rattle.tree.specs.Kinds.{Kind, Blend, ColorMatrix, ComponentTransfer, Composite, ConvolveMatrix, DiffuseLighting, DisplacementMap, DropShadow, Flood, GaussianBlur, Image, Merge, Morphology, Offset, SpecularLighting, Tile, Turbulence, Primitive, ConvolveMatrixFields}
use Rattle.tree.specs.declared.LightSource.{LightSource}
use Rattle.tree.specs.declared.LightSource.TheVariants as light
use Rattle.num.specs.Numbers.{Each}
use Rattle.num.proofs.Each.{each_front, each_behind}
use Rattle.fe_light.specs.SpecularLighting.{exponent_in_range}
use Rattle.fe_light.specs.Ranges.{light_numbers, light_in_range}
use Rattle.fe_kernel.specs.Ranges.{ConvolveMatrixRange}
use Rattle.ranges.specs.Numbers as ranges
use Rattle.list_read.specs.Read.{read32, read_many}
use Rattle.list_read.specs.Layout.{layout_of}
use Rattle.list_read.specs.Patterns.{walk_kind, patterns_in}
use Rattle.list_read.proofs.Back.{read32_back}
use Rattle.list_read_back.specs.Reading.{list_record_of}
use Rattle.list_read_back.specs.Within.{KindWithin, AllWithin, Fits}
use Rattle.list_read_back.specs.Ranges.{number_at, light_ok, kernel_ok, named_ok, RecordRange, RecordRanges}
use Rattle.list_read_back.proofs.Walks.{kind_walk}
use Rattle.list_read_back.proofs.Claims.{patterns_back}

positives : (x y : Float) → T (positive x) → T (positive y) → positive x && positive y ≡ true
positives x y h k = and_from (positive x) (positive y) (is_true (positive x) h) (is_true (positive y) k)

spot : (l : LightSource) → T (light_in_range l) → light_ok (light_numbers l) ≡ true
spot (light.DistantLight l) h = refl
spot (light.PointLight l) h = refl
spot (light.SpotLight l) h = is_true (positive l.specular_exponent) h

-- the words in front of a kernel
kernel_words : (a b c d : ℕ) (r : List ℕ) → a < 4294967296 → b < 4294967296 → c < 4294967296 → d < 4294967296
    → patterns_in (read_many read32 4 (bytes32 a ++ (bytes32 b ++ (bytes32 c ++ (bytes32 d ++ r))))) ≡ a ∷ b ∷ c ∷ d ∷ []
unfolding read_many
kernel_words a b c d r ha hb hc hd =
    rw (read32_back a (bytes32 b ++ (bytes32 c ++ (bytes32 d ++ r))) ha, read32_back b (bytes32 c ++ (bytes32 d ++ r)) hb, read32_back c (bytes32 d ++ r) hc, read32_back d r hd)

kernel_bytes : (v : ConvolveMatrixFields) → convolve_matrix_bytes v ≡ bytes32 v.matrix.target_x ++ (bytes32 v.matrix.target_y ++ (bytes32 v.matrix.columns ++ (bytes32 v.matrix.rows ++ (numbers_bytes v.matrix.numbers ++ (bytes_f v.divisor ++ (bytes_f v.bias ++ (edge_mode_place v.edge_mode ∷ bool_byte v.preserve_alpha ∷ [])))))))
unfolding convolve_matrix_bytes convolve_matrix_data_bytes
kernel_bytes v = simp append_assoc

kernel : (v : ConvolveMatrixFields) → length v.matrix.numbers ≤ 1024 → ConvolveMatrixRange v
    → kernel_ok (patterns_in (read_many read32 4 (convolve_matrix_bytes v))) (v.matrix.numbers ++ (v.divisor ∷ v.bias ∷ [])) ≡ true
kernel v few h =
    let m = v.matrix in
    let tx : m.target_x < m.columns = h.matrix.target_x in
    let ty : m.target_y < m.rows = h.matrix.target_y in
    let n : length m.numbers ≡ m.columns * m.rows = h.matrix.count in
    let wide : m.columns ≤ m.columns * m.rows = le-mul_of_pos_right m.columns (omega arith) in
    let high : m.rows ≤ m.columns * m.rows = rw (mul_comm m.columns m.rows) (le-mul_of_pos_right m.rows (omega arith)) in
    let all : length (m.numbers ++ (v.divisor ∷ v.bias ∷ [])) ≡ m.columns * m.rows + 2 = length-append m.numbers (v.divisor ∷ v.bias ∷ []) ∙ ap (λ (k : ℕ). k + 2) n in
    let end : m.columns * m.rows ≡ length m.numbers + 0 = omega arith in
    let divisor : number_at (m.numbers ++ (v.divisor ∷ v.bias ∷ [])) (m.columns * m.rows) ≡ v.divisor = ap (λ (k : ℕ). number_at (m.numbers ++ (v.divisor ∷ v.bias ∷ [])) k) end ∙ get_or-append-add m.numbers (v.divisor ∷ v.bias ∷ []) 0 plus_zero in
    rw (kernel_bytes v, kernel_words m.target_x m.target_y m.columns m.rows (numbers_bytes m.numbers ++ (bytes_f v.divisor ++ (bytes_f v.bias ++ (edge_mode_place v.edge_mode ∷ bool_byte v.preserve_alpha ∷ [])))) (omega arith) (omega arith) (omega arith) (omega arith), eq-eqb _ _ all, lt-ltb _ _ tx, lt-ltb _ _ ty, divisor, h.divisor)

-- by kind
named : (k : Kind tree.Input) → KindWithin k → ranges.InRange k → named_ok (kind_place k) (ranges.numbers_of_kind k) (patterns_in (read_many read32 4 (field_bytes k))) ≡ true
unfolding named_ok
named (Blend a b v) w h = refl
named (ColorMatrix a v) w h = refl
named (ComponentTransfer a v) w h = refl
named (Composite a b v) w h = refl
named (ConvolveMatrix a v) w h = kernel v w h
named (DiffuseLighting a v) w h = spot v.light_source h.spot
named (DisplacementMap a b v) w h = refl
named (DropShadow a v) w h = and_from _ _ (positives v.std_dev_x v.std_dev_y h.deviation_x h.deviation_y) (is_true (opacity_in v.opacity) h.opacity)
named (Flood v) w h = is_true (opacity_in v.opacity) h.opacity
named (GaussianBlur a v) w h = positives v.std_dev_x v.std_dev_y h.deviation_x h.deviation_y
named (Image never) w h = refl
named (Merge inputs) w h = refl
named (Morphology a v) w h = positives v.radius_x v.radius_y h.radius_x h.radius_y
named (Offset a v) w h = refl
named (SpecularLighting a v) w h = and_from _ _ (is_true (exponent_in_range v.specular_exponent) h.exponent) (spot v.light_source h.spot)
named (Tile a) w h = refl
named (Turbulence v) w h = refl

-- the f32 of a record's fields are the numbers of its kind
field_numbers_lem : (k : Kind tree.Input) → KindWithin k → Each Fits (ranges.numbers_of_kind k) → map (of_bits binary32) (patterns_in (walk_kind (layout_of (kind_place k)) (field_bytes k))) ≡ ranges.numbers_of_kind k
field_numbers_lem k w h = rw (kind_walk k w) (patterns_back (ranges.numbers_of_kind k) h)

record_range : (p : Primitive) → KindWithin p.kind → Each Fits (ranges.primitive_numbers p) → ranges.InRange p.kind → RecordRange (list_record_of p)
record_range p w h r =
    let k = p.kind in
    T_from_true _ (ap (λ (ns : List Float). named_ok (kind_place k) ns (patterns_in (read_many read32 4 (field_bytes k)))) (field_numbers_lem k w (each_behind Fits (ranges.rect_numbers p.rect) (ranges.numbers_of_kind k) h)) ∙ named k w r)

pub record_ranges : (ps : List Primitive) → AllWithin ps → Each Fits (ranges.list_numbers ps) → ranges.AllInRange ps → RecordRanges (map list_record_of ps)
unfolding RecordRanges AllWithin ranges.list_numbers ranges.AllInRange
record_ranges [] w h r = tt
record_ranges (p ∷ ps) w h r = (
  record_range p w.0.counts (each_front Fits (ranges.primitive_numbers p) (ranges.list_numbers ps) h) r.0,
  record_ranges ps w.1 (each_behind Fits (ranges.primitive_numbers p) (ranges.list_numbers ps) h) r.1,
)
