-- The invariant of the loop of `box_of` in src/group_boxes.rt, and its measure.
use Rattle.std.proofs.Common.{◌≡◌, ◌+◌, ◌-◌, ◌<◌, ◌≤◌, map}
use Rattle.ring_side.specs.SideChanges.{place_of, spots_run}
use Rattle.ring_side.specs.InsideGroups.{IsLeastBox, AreAmong}
use Rattle.ring_side.proofs.group_boxes.box_of.Given as goal

abbrev pub invariant-loop-spot : goal.invariant-loop-spot
invariant-loop-spot l = (l.spot.layer ≡ l.group.layer) × (l.spot.path ≡ l.group.path) × (l.group.first ≤ l.spot.vertex)
    × (l.spot.vertex < l.group.past)
    × IsLeastBox l.around (map (place_of l.sheets l.images l.frame) (spots_run l.group.layer l.group.path l.group.first (l.spot.vertex + 1 - l.group.first)))
    × AreAmong l.sheets l.images l.frame (spots_run l.group.layer l.group.path l.group.first (l.spot.vertex + 1 - l.group.first))

abbrev pub decreases-loop-spot : goal.decreases-loop-spot
decreases-loop-spot l = l.group.past - l.spot.vertex
