-- The counts of a list in the layout fit two bytes; the offsets and lengths of a list that is not too long fit four. Assumes nothing.
use Prim.Native.Nat.{ℕ, ◌+◌, ◌*◌, ◌≤◌, ◌<◌}
use native.Mathlib.Omega.{arith}
use mathlib.Core.Path.{◌≡◌, refl}
use mathlib.Core.Bool.{true}
use mathlib.Core.List.{List, [], ◌∷◌, ◌++◌, map, append_assoc}
use borrow.Author.Tests.{leb-true}
use lib.Dec.{leb}
use lib.ListN.{length}
use Rattle.bits.specs.Bytes.{bytes32}
use Rattle.bits.specs.Utf8.{utf8}
use Rattle.tree.specs.Input.{Name, Input, SourceGraphic, SourceAlpha, Reference}
use Rattle.tree.specs.Kinds.{ColorMatrixKind, Matrix, Saturate, HueRotate, LuminanceToAlpha, TransferFunction, Identity, Table, Discrete, Linear, Gamma}
use Rattle.tree.specs.Kinds.{Kind, Blend, ColorMatrix, ComponentTransfer, Composite, ConvolveMatrix, DiffuseLighting, DisplacementMap, DropShadow, Flood, GaussianBlur, Image, Merge, Morphology, Offset, SpecularLighting, Tile, Turbulence, Primitive, inputs_of}
use Rattle.tree.specs.List.{primitive_size, pairs_bytes, list_bytes}
use Rattle.tree.specs.Sizes.{total}
use Rattle.tree.proofs.Lengths.{length_list}
use Rattle.list_read.specs.Records.{form1, text_fits}
use Rattle.list_read.specs.Write.{inputs_fit}
use Rattle.std.proofs.lemmas.Bool.{and_parts}
use Rattle.list_read_back.specs.Within.{TransferWithin, ColorMatrixWithin, KindWithin, AllWithin}
use Rattle.list_bounds.specs.Bounds.{most_bytes, pair_numbers, table_counts, matrix_counts, kind_counts, input_counts, record_counts, list_counts, EachBelow}

below_append : (bound : ℕ) (ms ns : List ℕ) → EachBelow bound ms → EachBelow bound ns → EachBelow bound (ms ++ ns)
below_append bound [] ns h k = k
below_append bound (m ∷ ms) ns h k = (h.0, below_append bound ms ns h.1 k)

-- ---- offsets and lengths

-- these are the numbers that the pairs are made of
unfoldable pub words_of : List ℕ → List ℕ
words_of [] = []
words_of (n ∷ ns) = bytes32 n ++ words_of ns

pub pairs_are : (at : ℕ) (ks : List ℕ) → pairs_bytes at ks ≡ words_of (pair_numbers at ks)
unfolding pairs_bytes pair_numbers words_of
pairs_are at [] = refl
pairs_are at (k ∷ ks) = simp append_assoc (rw (pairs_are (at + k) ks))

pair_numbers_lem : (bound at : ℕ) (ks : List ℕ) → at + total ks < bound → EachBelow bound (pair_numbers at ks)
unfolding pair_numbers total
pair_numbers_lem bound at [] h = tt
pair_numbers_lem bound at (k ∷ ks) h = (omega arith, (omega arith, pair_numbers_lem bound (at + k) ks (omega arith)))

pub pairs_fit : (ps : List Primitive) → length (list_bytes ps) ≤ most_bytes → EachBelow 4294967296 (pair_numbers (2 + 8 * length ps) (map primitive_size ps))
pairs_fit ps h = pair_numbers_lem 4294967296 (2 + 8 * length ps) (map primitive_size ps) (omega (arith, length_list ps))

-- ---- counts

text_count : (t : Name) → text_fits t ≡ true → length t < 65536
text_count t h = omega (arith, leb-true (length t) 255 (and_parts (leb (length t) 255) (utf8 t) h).0)

input_counts_lem : (is : List Input) → inputs_fit form1 is ≡ true → EachBelow 65536 (input_counts is)
unfolding inputs_fit
input_counts_lem [] h = tt
input_counts_lem (SourceGraphic ∷ is) h = input_counts_lem is (and_parts true _ h).1
input_counts_lem (SourceAlpha ∷ is) h = input_counts_lem is (and_parts true _ h).1
input_counts_lem (Reference t ∷ is) h = (text_count t (and_parts (text_fits t) _ h).0, input_counts_lem is (and_parts (text_fits t) _ h).1)

table_counts_lem : (v : TransferFunction) → TransferWithin v → EachBelow 65536 (table_counts v)
table_counts_lem Identity h = tt
table_counts_lem (Table xs) h = (omega arith, tt)
table_counts_lem (Discrete xs) h = (omega arith, tt)
table_counts_lem (Linear slope intercept) h = tt
table_counts_lem (Gamma amplitude exponent offset) h = tt

matrix_counts_lem : (v : ColorMatrixKind) → ColorMatrixWithin v → EachBelow 65536 (matrix_counts v)
matrix_counts_lem (Matrix xs) h = (omega arith, tt)
matrix_counts_lem (Saturate x) h = tt
matrix_counts_lem (HueRotate x) h = tt
matrix_counts_lem LuminanceToAlpha h = tt

kind_counts_lem : {A : Type 0} (k : Kind A) → KindWithin k → EachBelow 65536 (kind_counts k)
kind_counts_lem (Blend a b v) h = tt
kind_counts_lem (ColorMatrix a v) h = matrix_counts_lem v h
kind_counts_lem (ComponentTransfer a v) h =
    below_append 65536 (table_counts v.func_r ++ table_counts v.func_g ++ table_counts v.func_b) (table_counts v.func_a)
    (below_append 65536 (table_counts v.func_r ++ table_counts v.func_g) (table_counts v.func_b)
    (below_append 65536 (table_counts v.func_r) (table_counts v.func_g) (table_counts_lem v.func_r h.0) (table_counts_lem v.func_g h.1))
    (table_counts_lem v.func_b h.2))
    (table_counts_lem v.func_a h.3)
kind_counts_lem (Composite a b v) h = tt
kind_counts_lem (ConvolveMatrix a v) h = (omega arith, tt)
kind_counts_lem (DiffuseLighting a v) h = tt
kind_counts_lem (DisplacementMap a b v) h = tt
kind_counts_lem (DropShadow a v) h = tt
kind_counts_lem (Flood v) h = tt
kind_counts_lem (GaussianBlur a v) h = tt
kind_counts_lem (Image never) h = tt
kind_counts_lem (Merge inputs) h = (omega arith, tt)
kind_counts_lem (Morphology a v) h = tt
kind_counts_lem (Offset a v) h = tt
kind_counts_lem (SpecularLighting a v) h = tt
kind_counts_lem (Tile a) h = tt
kind_counts_lem (Turbulence v) h = tt

record_counts_lem : (ps : List Primitive) → AllWithin ps → EachBelow 65536 (record_counts ps)
unfolding record_counts AllWithin
record_counts_lem [] w = tt
record_counts_lem (p ∷ ps) w =
    let is = input_counts (inputs_of p.kind) in
    let ks = kind_counts p.kind in
    let one = w.0 in
    below_append 65536 ((length p.result ∷ []) ++ is ++ ks) (record_counts ps)
    (below_append 65536 ((length p.result ∷ []) ++ is) ks
    (below_append 65536 (length p.result ∷ []) is (text_count p.result one.name, tt) (input_counts_lem (inputs_of p.kind) one.inputs))
    (kind_counts_lem p.kind one.counts))
    (record_counts_lem ps w.1)

pub counts_fit : (ps : List Primitive) → length ps ≤ 512 → AllWithin ps → EachBelow 65536 (list_counts ps)
counts_fit ps few w = (omega arith, record_counts_lem ps w)
