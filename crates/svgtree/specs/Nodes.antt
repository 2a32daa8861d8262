-- The node, and the nodes in a row, that handles of the code stand for. Definitions only.
use Rattle.std.specs.Prelude.{ℕ, zero, suc, ◌+◌, List, [], ◌∷◌}
use denote.Ref.{Bor}
use Rattle.svgtree.specs.declared.SvgNode.{SvgNode}
use Rattle.svgtree.specs.declared.run.NodeRun.{NodeRun}
use Rattle.svgtree.specs.Values.{Node}
use Rattle.svgtree.specs.Parse.{offset_of, node_from, nodes_from}

abbrev pub node_of : SvgNode → Node
node_of n = node_from n.bytes.now n.at

abbrev pub nodes_of : NodeRun → List Node
nodes_of r = nodes_from r.bytes.now r.first r.count

-- node i of the sheet, as the code gives it, and n nodes from number i on
abbrev pub handle_at : Bor (List ℕ) → ℕ → SvgNode
handle_at bytes i = record { bytes = bytes; at = offset_of bytes.now i }

unfoldable pub handles_from : Bor (List ℕ) → (i n : ℕ) → List SvgNode
handles_from bytes i zero = []
handles_from bytes i (suc n) = handle_at bytes i ∷ handles_from bytes (i + 1) n

abbrev pub handles_of : NodeRun → List SvgNode
handles_of r = handles_from r.bytes r.first r.count
