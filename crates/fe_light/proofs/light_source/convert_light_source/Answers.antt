-- The search goes past nodes that are no light sources alone (`search_is`). Assumes nothing.
use Rattle.std.proofs.Common.{rules, ap, ◌∙◌}
use Rattle.svgtree.specs.Nodes.{handles_of}
use Rattle.svgtree.proofs.Following.{nodes_handled}
use Rattle.fe_light.specs.LightSource.{light_source_of}
use Rattle.fe_light.proofs.Turns.{search_is}
use Rattle.fe_light.proofs.light_source.convert_light_source.Goals as goal

pub returns : goal.returns
returns c =
    let run = c.args.children in
    search_is _ _ (handles_of run) (cc) (λ a r h k. search rules) _ c.find_map.ensures.runs ∙ ap light_source_of (nodes_handled run.bytes run.first run.count)
