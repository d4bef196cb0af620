-- The invariant of the loop of `side_by_nodes` in src/trees.rt, and its measure.
use Rattle.std.proofs.Common.{◌≡◌, ◌≤◌, length, take}
use Rattle.ring_side.specs.Rings.{chain, last_of, no_point}
use Rattle.ring_side.specs.Sides.{side_of}
use Rattle.ring_side.specs.InsideSides.{both, side_by_all}
use Rattle.ring_side.specs.InsideTrees.{end_before}
use Rattle.ring_side.proofs.trees.side_by_nodes.Given as goal

abbrev pub invariant-loop-left : goal.invariant-loop-left
invariant-loop-left l = (l.left ≤ length l.nodes)
    × (both (side_by_all l.p (chain (last_of no_point l.ring) (take (end_before l.nodes l.left) l.ring))) l.side
    ≡ side_of l.ring l.p)

abbrev pub decreases-loop-left : goal.decreases-loop-left
decreases-loop-left l = l.left
