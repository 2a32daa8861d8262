-- The element feComponentTransfer and its children feFuncR, feFuncG, feFuncB, feFuncA (Filter Effects Module Level 1, "transfer function
-- element attributes"). Definitions only.
use Rattle.std.specs.Prelude.{ℕ, Bool, true, false, List, [], ◌∷◌, ◌++◌, eqb, Float, None, Option, Some}
use Rattle.names.specs.Ids.{aid_type, aid_table_values, aid_slope, aid_intercept, aid_amplitude, aid_exponent, aid_offset, eid_fe_func_r, eid_fe_func_g, eid_fe_func_b, eid_fe_func_a}
use Rattle.num.specs.Constants.{plus_zero, one}
use Rattle.svgtree.specs.Values.{Node}
use Rattle.svgtree.specs.Readers.{text_of, numbers_of}
use Rattle.tree.specs.Kinds.{TransferFunction, Identity, Table, Discrete, Linear, Gamma, ComponentTransferFields}
use Rattle.fe.specs.Attributes.{number_or}
use Rattle.fe.specs.Keywords.{Keyword, ◌means◌, keyword}

-- an absent list is an empty one
abbrev pub or_empty : Option (List Float) → List Float
or_empty None = []
or_empty (Some xs) = xs

abbrev pub table_values_of : Node → List Float
table_values_of n = or_empty (numbers_of n aid_table_values)

abbrev pub linear_of : Node → TransferFunction
linear_of n = Linear (number_or n aid_slope one) (number_or n aid_intercept plus_zero)

abbrev pub gamma_of : Node → TransferFunction
gamma_of n = Gamma (number_or n aid_amplitude one) (number_or n aid_exponent one) (number_or n aid_offset plus_zero)

-- the values of `type`
abbrev pub function_types : Node → List (Keyword (Option TransferFunction))
function_types n =
    "identity" means Some Identity
    ∷ "table" means Some (Table (table_values_of n))
    ∷ "discrete" means Some (Discrete (table_values_of n))
    ∷ "linear" means Some (linear_of n)
    ∷ "gamma" means Some (gamma_of n)
    ∷ []

-- an element's function by its `type`. The document: `identity` where `type` is absent; the crate: an element whose `type` is absent or no
-- keyword is not readable.
unfoldable pub transfer_function_of : Node → Option TransferFunction
transfer_function_of n = keyword (function_types n) None (text_of n aid_type)

-- a value in a list of its own, where it is there and wanted
abbrev pub wanted : {A : Type 0} → Bool → Option A → List A
wanted true (Some x) = x ∷ []
wanted true None = []
wanted false o = []

-- of the children with a tag, the functions of those that are readable, in order
unfoldable pub functions_of : ℕ → List Node → List TransferFunction
functions_of tag [] = []
functions_of tag (n ∷ ns) = wanted (eqb n.tag tag) (transfer_function_of n) ++ functions_of tag ns

-- the last of a list, or the default where it is empty
unfoldable pub last_or : {A : Type 0} → A → List A → A
last_or default [] = default
last_or default (x ∷ xs) = last_or x xs

-- "The last readable feFunc for a channel wins", and where there is none the channel stays as given. The document: the last feFunc, readable or not.
abbrev pub transfer_from : ComponentTransferFields → List Node → ComponentTransferFields
transfer_from given children =
    record {
      func_r = last_or given.func_r (functions_of eid_fe_func_r children);
      func_g = last_or given.func_g (functions_of eid_fe_func_g children);
      func_b = last_or given.func_b (functions_of eid_fe_func_b children);
      func_a = last_or given.func_a (functions_of eid_fe_func_a children);
    }

-- a channel without an element is left as it is
abbrev pub component_transfer_of : List Node → ComponentTransferFields
component_transfer_of children =
    transfer_from (record { func_r = Identity; func_g = Identity; func_b = Identity; func_a = Identity }) children
