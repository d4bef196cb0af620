-- Answers to the goals of `tree_of` in src/side_trees.rt.
use Rattle.std.proofs.Common.{sym, ap₂, ◌∙◌}
use Rattle.plane_base.specs.Boxes.{box_of_boxes}
use Rattle.tin_check.proofs.BorderLemmas.SideTrees.{parts_tree}
use Rattle.tin_check.proofs.side_trees.+tree_of.Goals as goal

pub returns-clause-tree : goal.returns-clause-tree
returns-clause-tree t c =
    parts_tree c.args.tin.now c.args.frame c.args.sides.now c.in_ok-low.low c.in_ok-high.high c.in_ok-low-2.low.value
    c.in_ok-high-2.high.value c.with_box-around.result c.in_ok-low-2.ensures.ok c.in_ok-high-2.ensures.ok
    c.in_ok-low.ensures.tree c.in_ok-high.ensures.tree
    (c.in_ok-low.ensures.past ∙ sym c.in_ok-high.ensures.first)
    (c.with_box-around.ensures ∙ ap₂ box_of_boxes c.around_of.ensures c.around_of-2.ensures)
