use Rattle.names.specs.Ids.{aid_x, aid_y, aid_width, aid_height}
use Rattle.svgtree.proofs.FirstWith.{Passed}
use Rattle.svgtree.proofs.sides.find_sides.Given as goal

abbrev pub invariant-loop-attribute : goal.invariant-loop-attribute
invariant-loop-attribute l =
    let s = l.node.bytes.now in
    record {
      x : Passed s l.node.at aid_x l.sides.x l.attribute-iterator;
      y : Passed s l.node.at aid_y l.sides.y l.attribute-iterator;
      width : Passed s l.node.at aid_width l.sides.width l.attribute-iterator;
      height : Passed s l.node.at aid_height l.sides.height l.attribute-iterator;
    }
