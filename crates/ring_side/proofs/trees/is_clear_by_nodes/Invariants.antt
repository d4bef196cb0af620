-- The invariant of the loop of `is_clear_by_nodes` in src/trees.rt, and its measure.
use Rattle.std.proofs.Common.{◌≤◌, length}
use Rattle.ring_side.specs.InsideTrees.{end_before}
use Rattle.ring_side.specs.InsideClear.{AreSegmentsApart}
use Rattle.ring_side.proofs.RingBoxes.ClearNodes.{chain_from}
use Rattle.ring_side.proofs.trees.is_clear_by_nodes.Given as goal

abbrev pub invariant-loop-left : goal.invariant-loop-left
invariant-loop-left l = (l.left ≤ length l.nodes) × AreSegmentsApart l.rect (chain_from l.ring (end_before l.nodes l.left))

abbrev pub decreases-loop-left : goal.decreases-loop-left
decreases-loop-left l = l.left
