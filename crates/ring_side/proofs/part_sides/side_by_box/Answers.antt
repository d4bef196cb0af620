-- Answers to the goals of `side_by_box` in src/part_sides.rt.
use Rattle.std.proofs.Common.{rules}
use Rattle.ring_side.proofs.RingBoxes.InBoxes.{clear_side, behind_side}
use Rattle.ring_side.proofs.part_sides.side_by_box.Goals as goal

pub returns-then-is_clear : goal.returns-then-is_clear
returns-then-is_clear c =
    clear_side c.args.around.now c.args.p c.args.from c.args.to (c.is_clear.ensures.0 (search rules))

pub returns-then-is_before : goal.returns-then-is_before
returns-then-is_before c =
    behind_side c.args.around.now c.args.p c.args.from c.args.to c.side_by_ends.result (c.is_before.ensures.0 (search rules))
    c.side_by_ends.ensures
