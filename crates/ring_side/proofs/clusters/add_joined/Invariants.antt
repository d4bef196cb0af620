-- The invariant of the loop of `add_joined` in src/clusters.rt, and its measure.
use Rattle.std.proofs.Common.{◌<◌, length}
use Rattle.ring_side.specs.InsideClusters.{AreBasesWithin, DoesKeepClusters}
use Rattle.ring_side.proofs.clusters.add_joined.Given as goal

abbrev pub invariant-loop-count : goal.invariant-loop-count
invariant-loop-count l = (0 < length l.clusters.items) × AreBasesWithin l.clusters.items
    × DoesKeepClusters l.initial.clusters.items l.clusters.items

abbrev pub decreases-loop-count : goal.decreases-loop-count
decreases-loop-count l = l.count
