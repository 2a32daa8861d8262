-- After each child the functions are those that the children so far give (`fold_is`). Assumes nothing.
use Rattle.std.proofs.Common.{rules, ap, ◌∙◌}
use Rattle.svgtree.specs.Nodes.{handles_of}
use Rattle.svgtree.proofs.Following.{nodes_handled}
use Rattle.fe_color.specs.ComponentTransfer.{component_transfer_of}
use Rattle.fe_color.proofs.Transfer.{handles_in, fold_is}
use Rattle.fe_color.proofs.component_transfer.convert_component_transfer.Goals as goal

pub returns : goal.returns
returns c =
    let run = c.args.children in
    fold_is _ run.bytes (λ v n w h q. search rules) _ _ _ (handles_of run) (cc) (handles_in run.bytes run.first run.count) c.fold.ensures.ran
    ∙ ap component_transfer_of (nodes_handled run.bytes run.first run.count)
