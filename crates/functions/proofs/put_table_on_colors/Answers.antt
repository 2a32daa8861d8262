-- The head, the table three times, and the place of Identity. Assumes nothing.
use Rattle.bits.proofs.Writing.{◌then◌}
use Rattle.tree.specs.List.{kind_bytes}
use Rattle.tree.specs.Fields.{transfer_function_bytes, component_transfer_bytes}
use Rattle.functions.proofs.put_table_on_colors.Goals as goal

pub returns : goal.returns
unfolding kind_bytes component_transfer_bytes transfer_function_bytes
returns c =
    c.put_head.ensures then (c.put_table.ensures then c.put_table-2.ensures then c.put_table-3.ensures then c.put.ensures)
