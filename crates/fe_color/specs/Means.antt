-- What the code's answers that hold places stand for over the sheet's bytes. Definitions only.
use Rattle.std.specs.Prelude.{ℕ, cond, List, eqb, None, Option, Some}
use Rattle.names.specs.Ids.{eid_fe_func_r, eid_fe_func_g, eid_fe_func_b, eid_fe_func_a}
use Rattle.tree.specs.Kinds as spec
use Rattle.tree.specs.Means.{transfer_function_is}
use Rattle.tree.specs.declared.TransferFunction.{TransferFunction}
use Rattle.tree.specs.declared.ComponentTransfer.{ComponentTransfer}

abbrev pub maybe_transfer_function_is : List ℕ → Option TransferFunction → Option spec.TransferFunction
maybe_transfer_function_is s (Some f) = Some (transfer_function_is s f)
maybe_transfer_function_is s None = None

-- the function given to the channel of the tag; a tag of no channel changes nothing
unfoldable pub assigned : ComponentTransfer → ℕ → TransferFunction → ComponentTransfer
assigned v tag f =
    record {
      func_r = cond (eqb tag eid_fe_func_r) f v.func_r;
      func_g = cond (eqb tag eid_fe_func_g) f v.func_g;
      func_b = cond (eqb tag eid_fe_func_b) f v.func_b;
      func_a = cond (eqb tag eid_fe_func_a) f v.func_a;
    }
