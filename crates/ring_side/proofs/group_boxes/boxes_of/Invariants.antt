-- The invariant of the loop of `boxes_of` in src/group_boxes.rt.
use Rattle.std.proofs.Common.{◌≡◌, ℕ, ◌<◌, length}
use Rattle.ring_side.specs.InsideGroups.{box_at}
use Rattle.ring_side.specs.InsideGroups.{IsLeastBox, AreAmong, places_in, spots_in, group_at}
use Rattle.ring_side.proofs.group_boxes.boxes_of.Given as goal

abbrev pub invariant-loop-group : goal.invariant-loop-group
invariant-loop-group l = (length l.boxes.items ≡ l.group-index)
    × ((k : ℕ) → k < l.group-index → IsLeastBox (box_at l.boxes.items k) (places_in l.sheets l.images l.frame (group_at l.groups k)) × AreAmong l.sheets l.images l.frame (spots_in (group_at l.groups k)))
