-- Demand 3 of what is read from the output. Assumes nothing.
use Prim.Native.Nat.{ℕ, ◌<◌, ◌≤◌}
use mathlib.Core.Path.{◌≡◌, refl, sym, ap, ap₂, ◌∙◌}
use mathlib.Core.Bool.{not}
use mathlib.Core.List.{List, [], ◌∷◌, ◌++◌, map}
use lib.Dec.{T}
use lib.ListN.{length, take}
use lib.Seq.{take_at}
use lib.Ieee.{Float, binary32, nan_bits, of_bits, to_bits}
use lib.Ieee.Bits.{of_bits-to_bits, to_bits-lt, nan_bits_is}
use Rattle.tree.specs.Kinds.{Primitive}
use Rattle.tree.specs.List as list
use Rattle.naming.specs.Agreement.{ChildNames, Agrees}
use Rattle.list_primitives.specs.NamesOnly.{record_names}
use Rattle.num.specs.Numbers.{Each, IsNumber}
use Rattle.ranges.specs.Numbers as ranges
use Rattle.list_read.specs.Read.{Got, outside, got}
use Rattle.list_read.specs.Records.{form1}
use Rattle.list_read.specs.Lists.{read_list}
use Rattle.list_read.proofs.Back.{read32_back}
use Rattle.list_read_back.specs.Reading.{list_record_of}
use Rattle.list_read_back.specs.Within.{AllWithin, Fits, Reads}
use Rattle.list_read_back.specs.Claim.{read_names, NoNan}
use Rattle.list_read_back.proofs.Walks.{pattern_of, read_pattern}
use Rattle.list_read_back.proofs.ReadBack.{read_back, list_numbers_lem}

-- the pattern of a value that the format holds is its bits

bits_small : (x : Float) → Fits x → to_bits binary32 x < 4294967296
bits_small x h = to_bits-lt binary32 x h

abbrev number_of : Got ℕ → ℕ
number_of outside = 0
number_of (got n r) = n

pattern_is : (x : Float) → Fits x → pattern_of x ≡ to_bits binary32 x
pattern_is x h = ap number_of (sym (read_pattern (to_bits binary32 x) []) ∙ read32_back (to_bits binary32 x) [] (bits_small x h))

no_nan : (x : Float) → Fits x → IsNumber x → T (not (nan_bits binary32 (pattern_of x)))
no_nan x h n = rw (pattern_is x h, nan_bits_is binary32 (to_bits binary32 x), of_bits-to_bits binary32 x h) n

no_nans : (xs : List Float) → Each Fits xs → Each IsNumber xs → NoNan (map pattern_of xs)
unfolding NoNan
no_nans [] h n = tt
no_nans (x ∷ xs) h n = (no_nan x h.0 n.0, no_nans xs h.1 n.1)

-- and stands for it

pattern_back : (x : Float) → Fits x → of_bits binary32 (pattern_of x) ≡ x
pattern_back x h = ap (of_bits binary32) (pattern_is x h) ∙ of_bits-to_bits binary32 x h

pub patterns_back : (xs : List Float) → Each Fits xs → map (of_bits binary32) (map pattern_of xs) ≡ xs
patterns_back [] h = refl
patterns_back (x ∷ xs) h = ap₂ {C = List Float} (λ (y : Float) (ys : List Float). y ∷ ys) (pattern_back x h.0) (patterns_back xs h.1)

-- names

names_of : (ps : List Primitive) → map read_names (map list_record_of ps) ≡ map record_names ps
names_of [] = refl
names_of (p ∷ ps) = rw (names_of ps)

-- what is proved of the primitives holds of what is read from an output that begins with their list
pub reads : (ps : List Primitive) (out rest : List ℕ) (children : List ChildNames)
    → out ≡ list.list_bytes ps ++ rest → length ps ≤ 512 → AllWithin ps → Agrees children (map record_names ps) → Each IsNumber (ranges.list_numbers ps) → Each Fits (ranges.list_numbers ps)
    → Reads out (length (list.list_bytes ps)) children
reads ps out rest children o few w a n h =
    record {
      records = map list_record_of ps;
      read = ap (λ (l : List ℕ). read_list form1 (take (length (list.list_bytes ps)) l)) o ∙ ap (read_list form1) (take_at (list.list_bytes ps) rest (length (list.list_bytes ps)) refl) ∙ read_back ps few w;
      agrees = rw (names_of ps) a;
      numbers = rw (list_numbers_lem ps w) (no_nans (ranges.list_numbers ps) h n);
    }
