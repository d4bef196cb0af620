-- The invariant of the loop of `add_group` in src/changes.rt, and its measure.
use Rattle.std.proofs.Common.{◌-◌, ◌≤◌, ◌++◌}
use Rattle.std.specs.Prelude.{flat_map}
use Rattle.ring_side.specs.SideChanges.{point_change, spots_run}
use Rattle.ring_side.specs.InsideGroups.{spots_in}
use Rattle.ring_side.specs.InsideLists.{AreOnWay}
use Rattle.ring_side.proofs.changes.add_group.Given as goal

abbrev pub invariant-loop-vertex : goal.invariant-loop-vertex
invariant-loop-vertex l = (l.group.first ≤ l.vertex) × (l.vertex ≤ l.group.past)
    × AreOnWay l.most l.changes.items
    (flat_map (point_change l.sheets l.images l.ring.layer l.ring.path) (spots_run l.group.layer l.group.path l.vertex (l.group.past - l.vertex)))
    (l.initial.changes.items ++ flat_map (point_change l.sheets l.images l.ring.layer l.ring.path) (spots_in l.group))

abbrev pub decreases-loop-vertex : goal.decreases-loop-vertex
decreases-loop-vertex l = l.group.past - l.vertex
