-- The table of the code is that of the definition, word by word. Assumes nothing.
use mathlib.Core.Path.{ap, ◌∙◌}
use Rattle.tree.specs.declared.BlendMode.TheVariants.{Normal}
use Rattle.fe.specs.Keywords.{keyword}
use Rattle.fe_color.specs.Blend.{modes}
use Rattle.fe_color.proofs.blend.convert_blend.Goals as goal

pub returns : goal.returns
returns c = c.keyword.ensures ∙ ap (keyword modes Normal) c.attribute-mode.ensures
