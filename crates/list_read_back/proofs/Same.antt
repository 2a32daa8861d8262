-- The list's bytes, as `tree` defines them, are those of the list of records in form 1. Assumes nothing.
use Prim.Native.Nat.{ℕ, ◌+◌, ◌*◌}
use mathlib.Core.Path.{◌≡◌, refl}
use mathlib.Core.List.{List, [], ◌∷◌, map, append_assoc, append-nil}
use lib.ListN.{length, length-map}
use Rattle.tree.specs.Input.{Input, input_bytes}
use Rattle.tree.specs.Places.{kind_place}
use Rattle.tree.specs.Kinds.{Kind, Blend, ColorMatrix, ComponentTransfer, Composite, ConvolveMatrix, DiffuseLighting, DisplacementMap, DropShadow, Flood, GaussianBlur, Image, Merge, Morphology, Offset, SpecularLighting, Tile, Turbulence, Primitive, inputs_in, inputs_of}
use Rattle.tree.specs.List.{input_run, inputs_bytes, kind_bytes, primitive_bytes, primitive_size, pairs_bytes, records_bytes, list_bytes}
use Rattle.list_read.specs.Layout.{layout_of}
use Rattle.list_read.specs.Records.{form1}
use Rattle.list_read.specs.Write.{write_inputs, write_kind_inputs, write_record, write_pairs, write_records, write_list}
use Rattle.list_read_back.specs.Reading.{list_record_of}

-- a kind's inputs, as its layout has them
inputs_same : (k : Kind Input) → write_kind_inputs form1 (layout_of (kind_place k)) (inputs_of k) ≡ inputs_bytes input_bytes (inputs_in k)
unfolding layout_of inputs_of write_inputs input_run input_bytes
inputs_same (Blend a b v) = simp append-nil
inputs_same (ColorMatrix a v) = simp append-nil
inputs_same (ComponentTransfer a v) = simp append-nil
inputs_same (Composite a b v) = simp append-nil
inputs_same (ConvolveMatrix a v) = simp append-nil
inputs_same (DiffuseLighting a v) = simp append-nil
inputs_same (DisplacementMap a b v) = simp append-nil
inputs_same (DropShadow a v) = simp append-nil
inputs_same (Flood v) = refl
inputs_same (GaussianBlur a v) = simp append-nil
inputs_same (Image never) = absurd never
inputs_same (Merge inputs) = refl
inputs_same (Morphology a v) = simp append-nil
inputs_same (Offset a v) = simp append-nil
inputs_same (SpecularLighting a v) = simp append-nil
inputs_same (Tile a) = simp append-nil
inputs_same (Turbulence v) = refl

record_same : (p : Primitive) → write_record form1 (list_record_of p) ≡ primitive_bytes p
unfolding write_record primitive_bytes kind_bytes
record_same p = rw (inputs_same p.kind) (simp append_assoc)

records_same : (ps : List Primitive) → write_records form1 (map list_record_of ps) ≡ records_bytes ps
unfolding write_records records_bytes
records_same [] = refl
records_same (p ∷ ps) = rw (record_same p, records_same ps)

pairs_same : (at : ℕ) (ps : List Primitive) → write_pairs form1 at (map list_record_of ps) ≡ pairs_bytes at (map primitive_size ps)
unfolding write_pairs pairs_bytes
pairs_same at [] = refl
pairs_same at (p ∷ ps) = rw (record_same p, pairs_same (at + length (primitive_bytes p)) ps) (simp append_assoc)

pub list_same : (ps : List Primitive) → write_list form1 (map list_record_of ps) ≡ list_bytes ps
unfolding write_list list_bytes
list_same ps = rw (length-map ps list_record_of, pairs_same (2 + 8 * length ps) ps, records_same ps) (simp append_assoc)
