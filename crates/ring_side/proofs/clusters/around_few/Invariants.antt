-- The invariant of the loop of `around_few` in src/clusters.rt, and its measure.
use Rattle.std.proofs.Common.{◌-◌, ◌<◌, ◌≤◌}
use Rattle.ring_side.specs.InsideClusters.{IsLeastAround}
use Rattle.ring_side.proofs.clusters.around_few.Given as goal

abbrev pub invariant-loop-place : goal.invariant-loop-place
invariant-loop-place l = (l.first < l.place) × (l.place ≤ l.past) × IsLeastAround l.around l.order l.boxes l.first l.place

abbrev pub decreases-loop-place : goal.decreases-loop-place
decreases-loop-place l = l.past - l.place
