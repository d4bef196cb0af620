-- The invariant of the loop of `side_changes` in src/changes.rt, and its measure.
use Rattle.std.proofs.Common.{◌-◌, length, drop}
use Rattle.ring_side.specs.SideChanges.{layers_changes, side_changes_of}
use Rattle.ring_side.specs.InsideLists.{AreOnWay}
use Rattle.ring_side.proofs.changes.side_changes.Given as goal

abbrev pub invariant-loop-layer : goal.invariant-loop-layer
invariant-loop-layer l = AreOnWay l.most l.changes.items (layers_changes l.sheets l.images l.layer (drop l.layer l.sheets))
    (side_changes_of l.sheets l.images)

abbrev pub decreases-loop-layer : goal.decreases-loop-layer
decreases-loop-layer l = length l.sheets - l.layer
