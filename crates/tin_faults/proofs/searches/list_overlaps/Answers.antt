-- Answers to the goals of `list_overlaps` in src/searches.rt.
use Rattle.std.proofs.Common.{arith}
use Rattle.tin_check.specs.Faults.{frame_rank}
use Rattle.tin_check.proofs.PairFits.InBoxes.{box_ordered}
use Rattle.tin_check.proofs.PairFits.Partners.{near_in_range}
use Rattle.tin_faults.proofs.TriangleBoxes.{near_lists}
use Rattle.tin_faults.proofs.Growth.{pairs_done}
use Rattle.tin_faults.proofs.searches.list_overlaps.Goals as goal

pub near-requires : goal.near-requires
near-requires c = let is = c.box_in.ensures in box_ordered is.tri c.box_in.result is.is

pub list_overlaps_of-requires-clause-in_range : goal.list_overlaps_of-requires-clause-in_range
list_overlaps_of-requires-clause-in_range c = near_in_range c.args.tin.now c.args.frame c.in_ok-grid.grid.boxes
    c.box_in.result c.in_ok-near.near.items c.deref.result.now c.in_ok-grid.ensures c.in_ok-near.ensures
    c.deref.ensures.value

pub list_overlaps_of-requires-clause-others : goal.list_overlaps_of-requires-clause-others
list_overlaps_of-requires-clause-others c =
    near_lists c.args.tin.now c.args.frame c.in_ok-grid.grid.boxes c.loop-first.first c.box_in.result
    c.in_ok-near.near.items c.deref.result.now c.boxes_share_a_point_or_are_apart.ensures c.in_ok-grid.ensures
    c.box_in.ensures c.in_ok-near.ensures c.deref.ensures.value

pub returns-clause-after : goal.returns-clause-after
returns-clause-after c = pairs_done c.args.tin.now (frame_rank c.args.frame) c.loop-first.first
    c.loop-first.found.items (omega arith) c.loop-first.invariant.0
