-- In form 1 a reference is a text, in form 2 two bytes: `word_left`.
use Rattle.std.proofs.Common.{◌∙◌}
use Rattle.list_layout.proofs.Walking.{word_left}
use Rattle.list_layout.proofs.after_reference.Goals as goal

pub returns-in-One : goal.returns-in-One
returns-in-One c = rw c.in-One.is c.after_text.ensures

pub returns-in-Two : goal.returns-in-Two
returns-in-Two c = rw c.in-Two.is (c.after_bytes.ensures.run ∙ word_left _)
