-- The invariant of the loop of `near_groups` in src/changes.rt, and its measure.
use Rattle.std.proofs.Common.{◌≤◌, length}
use Rattle.ring_side.specs.InsideClusters.{past_before}
use Rattle.ring_side.specs.InsideNear.{AreSifted}
use Rattle.ring_side.proofs.changes.near_groups.Given as goal

abbrev pub invariant-loop-left : goal.invariant-loop-left
invariant-loop-left l = (l.left ≤ length l.places.clusters.items)
    × AreSifted l.ring l.places l.numbers.items (past_before l.places.clusters.items l.left)

abbrev pub decreases-loop-left : goal.decreases-loop-left
decreases-loop-left l = l.left
