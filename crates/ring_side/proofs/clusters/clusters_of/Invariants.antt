-- The invariant of the loop of `clusters_of` in src/clusters.rt, and its measure.
use Rattle.std.proofs.Common.{◌-◌, ◌≤◌, length}
use Rattle.ring_side.specs.InsideClusters.{AreClustersUpTo}
use Rattle.ring_side.proofs.clusters.clusters_of.Given as goal

abbrev pub invariant-loop-first : goal.invariant-loop-first
invariant-loop-first l = (l.first ≤ length l.order) × (l.count ≤ l.first) × AreClustersUpTo l.order l.source l.target l.clusters.items l.first

abbrev pub decreases-loop-first : goal.decreases-loop-first
decreases-loop-first l = length l.order - l.first
