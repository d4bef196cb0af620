-- Answers to the goals of `is_box_right_of` in src/side_trees.rt.
use Rattle.tin_check.proofs.BorderLemmas.SideTrees.{corner_near, corner_right}
use Rattle.tin_check.proofs.side_trees.is_box_right_of.Goals as goal

pub turns_right-requires : goal.turns_right-requires
turns_right-requires c =
    corner_near c.args.p c.args.q c.leftmost_corner.result.x c.leftmost_corner.result.y c.args.around.now
    c.requires.near c.requires.near_p c.requires.near_q c.leftmost_corner.ensures.x c.leftmost_corner.ensures.y

pub returns : goal.returns
returns c = λ yes.
    corner_right c.args.p c.args.q c.leftmost_corner.result.x c.leftmost_corner.result.y c.args.around.now
    c.leftmost_corner.ensures.x c.leftmost_corner.ensures.y (c.turns_right.ensures yes)
