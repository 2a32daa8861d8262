-- A list within the layout, whose numbers are numbers, is what is read from an output that begins with it, and its names agree with the rule's.
-- Assumes nothing.
use Prim.Native.Nat.{ℕ}
use mathlib.Core.Path.{◌≡◌, refl, sym, ap, ap₂, ◌∙◌, subst}
use mathlib.Core.List.{List, [], ◌∷◌, ◌++◌, map}
use lib.ListN.{length, take}
use lib.Seq.{take_at}
use lib.Ieee.{binary32, of_bits}
use Rattle.tree.specs.Kinds.{Primitive}
use Rattle.tree.specs.List as list
use Rattle.tree.specs.Input.{Input}
use Rattle.tree.proofs.Inputs.{inputs_map}
use Rattle.naming.specs.Names.{Results, start, names_so_far, name_of, label, after}
use Rattle.naming.specs.Inputs.{resolve}
use Rattle.naming.specs.Written.{record_names_from}
use Rattle.naming.specs.Agreement.{Agrees, RecordNames}
use Rattle.naming.proofs.Claim.{claim}
use Rattle.child.specs.Child.{Child}
use Rattle.list_primitives.specs.Primitives.{primitives_from, primitives, child_names}
use Rattle.list_primitives.specs.NamesOnly.{record_names}
use Rattle.ranges.specs.Numbers as ranges
use Rattle.list_read.specs.Read.{got}
use Rattle.tree.specs.Input.{Name}
use Rattle.list_read.specs.Records.{ListRecord, form1}
use Rattle.list_read.specs.Lists.{read_list}
use Rattle.list_read.specs.Patterns.{list_patterns}
use Rattle.list_read_back.specs.Reading.{list_record_of}
use Rattle.list_read_back.specs.Within.{Reads}
use Rattle.list_read_back.specs.Ranges.{RecordRanges}
use Rattle.list_read_back.proofs.ReadBack.{read_back, list_numbers_lem}
use Rattle.list_read_back.proofs.Claims.{patterns_back, reads}
use Rattle.list_read_back.proofs.NamedNumbers.{record_ranges}
use Rattle.list_within.specs.Lists.{ListWithin}
use Rattle.list_within.specs.Renders.{Renders}

got_same : {A : Type 0} (x y : A) (r : List ℕ) → got x r ≡ got y r → x ≡ y
got_same x y r e = cc

-- the list's records are those that the naming theorem speaks of

same_names : (st : Results) (cs : List Child) → map record_names (primitives_from st cs) ≡ record_names_from st (map child_names cs)
unfolding primitives_from record_names_from
same_names st [] = refl
same_names st (c ∷ cs) =
    ap₂ {C = List RecordNames} (λ (i : List Input) (l : List RecordNames). record { result = name_of (label st c.own); inputs = i } ∷ l)
    (inputs_map (resolve (names_so_far st)) c.kind)
    (same_names (after st c.own) cs)

agrees : (cs : List Child) → Agrees (map child_names cs) (map record_names (primitives cs))
agrees cs = subst (Agrees (map child_names cs)) (sym (same_names start cs)) (claim (map child_names cs))

module _ (children : List Child) (out rest : List ℕ) (o : out ≡ list.list_bytes (primitives children) ++ rest) (w : ListWithin (primitives children)) where
  abbrev ps : List Primitive
  ps = primitives children

  abbrev long : ℕ
  long = length (list.list_bytes ps)

  -- what is read of the output's beginning
  there : read_list form1 (take long out) ≡ got (map list_record_of ps) []
  there = ap (λ (l : List ℕ). read_list form1 (take long l)) o ∙ ap (read_list form1) (take_at (list.list_bytes ps) rest long refl) ∙ read_back ps w.few w.within

  each : (r : Reads out long (map child_names children)) → r.records ≡ map list_record_of ps
  each r = got_same r.records (map list_record_of ps) [] (sym r.read ∙ there)

  numbers : map (of_bits binary32) (list_patterns (map list_record_of ps)) ≡ ranges.list_numbers ps
  numbers = ap (map (of_bits binary32)) (list_numbers_lem ps w.within) ∙ patterns_back (ranges.list_numbers ps) w.fits

  pub renders : (n : ℕ) → n ≡ long → ranges.Sound ps → Renders out n children
  renders n e s =
      let r : Reads out long (map child_names children) = reads ps out rest (map child_names children) o w.few w.within (agrees children) s.numbers w.fits in
      record {
        records = r.records;
        read = ap (λ (m : ℕ). read_list form1 (take m out)) e ∙ r.read;
        each = each r;
        agrees = r.agrees;
        no_nan = r.numbers;
        numbers = ap (λ (l : List (ListRecord Name)). map (of_bits binary32) (list_patterns l)) (each r) ∙ numbers;
        ranges = subst RecordRanges (sym (each r)) (record_ranges ps w.within w.fits s.ranges);
      }
