-- The numbers of document 01's table "When no list is given", and those that document 02 adds. Definitions only.
use Rattle.std.specs.Prelude.{ℕ}
use Rattle.answer.specs.declared.Refusal.{Refusal}
use Rattle.answer.specs.declared.Refusal.TheVariants.{TooLarge, Malformed, BadNumber, Image, NoRegion, Unrepresentable, BadFrequency, NoPrimitive, ShortOutput, OutsideGrammar, OutsideLimits}

abbrev pub refusal_number : Refusal → ℕ
-- "sheet over 65,536 bytes, or node count over 512"
refusal_number TooLarge = 1
-- "bytes not in the layout"
refusal_number Malformed = 2
-- "number not finite, as given or narrowed to f32", and the other numbers that the row names
refusal_number BadNumber = 3
-- "feImage at depth 0"
refusal_number Image = 4
-- "no filter rectangle, or its box is missing"
refusal_number NoRegion = 5
-- "a placing makes no rectangle", which is the filter rectangle's alone (document 02, [4]), "or a radius product isn't finite ..; or, for feDisplacementMap in
-- box units, box width + height isn't finite"
refusal_number Unrepresentable = 6
-- "base frequency positive in sign but not finite"
refusal_number BadFrequency = 7
-- "no primitive"
refusal_number NoPrimitive = 8
-- "output shorter than the list"
refusal_number ShortOutput = 9
-- document 02, [2], of a typed list: "text outside that grammar, UTF-8 or not, or over 1,024 items"
refusal_number OutsideGrammar = 10
-- "more than 15 digits or a power outside −22 to 22"
refusal_number OutsideLimits = 11
