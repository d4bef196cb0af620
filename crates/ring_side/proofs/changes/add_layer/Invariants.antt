-- The invariant of the loop of `add_layer` in src/changes.rt, and its measure.
use Rattle.std.proofs.Common.{◌-◌, ◌++◌, length, drop}
use Rattle.ring_side.specs.SideChanges.{paths_changes, sheet_at}
use Rattle.ring_side.specs.InsideLists.{AreOnWay}
use Rattle.ring_side.proofs.changes.add_layer.Given as goal

abbrev pub invariant-loop-path : goal.invariant-loop-path
invariant-loop-path l = AreOnWay l.most l.changes.items
    (paths_changes l.sheets l.images l.layer l.path (drop l.path (sheet_at l.sheets l.layer).paths))
    (l.initial.changes.items ++ paths_changes l.sheets l.images l.layer 0 (sheet_at l.sheets l.layer).paths)

abbrev pub decreases-loop-path : goal.decreases-loop-path
decreases-loop-path l = length l.rows - l.path
