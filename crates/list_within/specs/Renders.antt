-- Demand 3 of what a reader reads from the output's bytes, for the children that count. Definitions only.
use Rattle.std.specs.Prelude.{ℕ, ◌≡◌, List, [], map, take}
use Rattle.std.specs.Float.{binary32}
use Rattle.std.specs.Float.Ieee.{of_bits}
use Rattle.naming.specs.Agreement.{Agrees}
use Rattle.child.specs.Child.{Child}
use Rattle.list_primitives.specs.Primitives.{primitives, child_names}
use Rattle.ranges.specs.Numbers as ranges
use Rattle.list_read.specs.Read.{got}
use Rattle.tree.specs.Input.{Name}
use Rattle.list_read.specs.Records.{ListRecord, form1}
use Rattle.list_read.specs.Lists.{read_list}
use Rattle.list_read.specs.Patterns.{list_patterns}
use Rattle.list_read_back.specs.Reading.{list_record_of}
use Rattle.list_read_back.specs.Claim.{read_names, NoNan}
use Rattle.list_read_back.specs.Ranges.{RecordRanges}

-- The first `n` bytes of the output are a list of the layout, with nothing behind it. It has one record for each child, and each is what demand 2 says
-- of the child; at every input, the reader's lookup among the records before gives what the rule gives among the children before; no pattern of an
-- f32 in it is a NaN's; the numbers that the patterns stand for are those of the primitives, in order; and each named number is in its range
pub record Renders (out : List ℕ) (n : ℕ) (children : List Child) : Type 0 where
  pub records : List (ListRecord Name)
  pub read : read_list form1 (take n out) ≡ got records []
  pub each : records ≡ map list_record_of (primitives children)
  pub agrees : Agrees (map child_names children) (map read_names records)
  pub no_nan : NoNan (list_patterns records)
  pub numbers : map (of_bits binary32) (list_patterns records) ≡ ranges.list_numbers (primitives children)
  pub ranges : RecordRanges records
