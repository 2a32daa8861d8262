-- What is wrong with the values of a sheet's nodes, as the code keeps it: the worst of all faults says which of 10, 11 and 3 comes first. Definitions only.
use Rattle.answer.specs.declared.Refusal.{Refusal}
use Rattle.decimal.specs.declared.TextFault.{TextFault}
use Rattle.std.specs.Prelude.{ℕ, zero, suc, ◌+◌, List, [], ◌∷◌, map, Bool, cond, not, eqb, Option, Some, None, Err, Ok, Result}
use Rattle.bits.specs.Bytes.{bytes_from}
use Rattle.num.specs.Sign.{positive}
use Rattle.number_list.specs.Outcome.{text_outcome}
use Rattle.number_list.specs.Means.{outcome_check}
use Rattle.sheet_fields.specs.Fields.{kind_typed}
use Rattle.svgtree.specs.declared.attributes.Attribute.{Attribute}
use Rattle.svgtree.specs.Values.{Sheet}
use Rattle.svgtree.specs.declared.SvgNode.{SvgNode}
use Rattle.svgtree.specs.Listed.{value_bytes, attribute_of}
use Rattle.svgtree.specs.Parse.{attribute_kind_at, attribute_length_at, value_place, attribute_at, places_of, offset_of, node_from}
use Rattle.answer.specs.declared.Refusal.TheVariants.{BadNumber, Image, OutsideGrammar, OutsideLimits}
use Rattle.sheet_check.specs.Numbers.{attribute_numbers_ok, header_numbers_ok}
use Rattle.sheet_check.specs.Refusals.{no_image}
use Rattle.sheet_check.specs.declared.faults.Fault.{Fault}
use Rattle.sheet_check.specs.declared.faults.Fault.TheVariants.{Number, Limits, Grammar}
use Rattle.decimal.specs.declared.TextFault.TheVariants as fault

-- a text's fault as one of the sheet, and a fault's number
abbrev pub fault_from : TextFault → Fault
fault_from fault.OutsideLimits = Limits
fault_from fault.OutsideGrammar = Grammar

abbrev pub refusal_from : Fault → Refusal
refusal_from Number = BadNumber
refusal_from Limits = OutsideLimits
refusal_from Grammar = OutsideGrammar

abbrev pub text_fault : Result (Unit {0}) TextFault → Option Fault
text_fault (Ok tt) = None
text_fault (Err text) = Some (fault_from text)

abbrev pub number_fault : Bool → Option Fault
number_fault ok = cond ok None (Some Number)

abbrev pub at_least_number : Option Fault → Option Fault
at_least_number None = Some Number
at_least_number (Some b) = Some b

abbrev pub at_least_limits : Option Fault → Option Fault
at_least_limits None = Some Limits
at_least_limits (Some Number) = Some Limits
at_least_limits (Some Limits) = Some Limits
at_least_limits (Some Grammar) = Some Grammar

abbrev pub worse_of : Option Fault → Option Fault → Option Fault
worse_of None b = b
worse_of (Some Number) b = at_least_number b
worse_of (Some Limits) b = at_least_limits b
worse_of (Some Grammar) b = Some Grammar

unfoldable pub worst : List (Option Fault) → Option Fault
worst [] = None
worst (x ∷ xs) = worse_of x (worst xs)

-- the fault of an attribute that the code gives
abbrev pub fault_of : List ℕ → Attribute → Option Fault
fault_of s a =
    cond (eqb a.value.kind kind_typed)
    (text_fault (outcome_check (text_outcome (value_bytes s a.value))))
    (number_fault (attribute_numbers_ok (attribute_of s a)))

-- the fault of the attribute at a place: of a typed list its text's, of any other its numbers'
unfoldable pub attribute_fault : List ℕ → ℕ → Option Fault
attribute_fault s at =
    cond (eqb (attribute_kind_at s at) kind_typed)
    (text_fault (outcome_check (text_outcome (bytes_from s (value_place at) (attribute_length_at s at)))))
    (number_fault (attribute_numbers_ok (attribute_at s at)))

-- of the node at a place: its font size's and its attributes'
unfoldable pub node_fault : List ℕ → ℕ → Option Fault
node_fault s at = worse_of (number_fault (positive (node_from s at).font_size)) (worst (map (attribute_fault s) (places_of s at)))

-- and of a node that the code gives
abbrev pub fault_of_node : SvgNode → Option Fault
fault_of_node n = node_fault n.bytes.now n.at

-- of n nodes from number i on
unfoldable pub node_faults : List ℕ → (i n : ℕ) → List (Option Fault)
node_faults s i zero = []
node_faults s i (suc n) = node_fault s (offset_of s i) ∷ node_faults s (i + 1) n

-- 3 for the header, then 4, of a sheet whose nodes have no fault
abbrev pub header_refusal : Sheet → Result (Unit {0}) Refusal
header_refusal sheet = cond (not (header_numbers_ok sheet.header)) (Err BadNumber) (cond (not (no_image sheet)) (Err Image) (Ok tt))
