-- The element feComposite (Filter Effects Module Level 1): its attributes `operator` and k1 to k4. Definitions only.
use Rattle.std.specs.Prelude.{List, [], ◌∷◌}
use Rattle.names.specs.Ids.{aid_operator, aid_k1, aid_k2, aid_k3, aid_k4}
use Rattle.num.specs.Constants.{plus_zero}
use Rattle.svgtree.specs.Values.{Node}
use Rattle.svgtree.specs.Readers.{text_of}
use Rattle.tree.specs.declared.CompositeOperator.{CompositeOperator}
use Rattle.tree.specs.declared.CompositeOperator.TheVariants.{Over, In, Out, Atop, Xor, Lighter, Arithmetic}
use Rattle.fe.specs.Attributes.{number_or}
use Rattle.fe.specs.Keywords.{Keyword, ◌means◌, keyword}

abbrev pub arithmetic_of : Node → CompositeOperator
arithmetic_of n = Arithmetic (number_or n aid_k1 plus_zero) (number_or n aid_k2 plus_zero) (number_or n aid_k3 plus_zero) (number_or n aid_k4 plus_zero)

-- the operators but `over`
abbrev pub operators : Node → List (Keyword CompositeOperator)
operators n =
    "arithmetic" means arithmetic_of n
    ∷ "in" means In
    ∷ "out" means Out
    ∷ "atop" means Atop
    ∷ "xor" means Xor
    ∷ "lighter" means Lighter
    ∷ []

-- `over` where `operator` is absent or another text
abbrev pub composite_operator_of : Node → CompositeOperator
composite_operator_of n = keyword (operators n) Over (text_of n aid_operator)
