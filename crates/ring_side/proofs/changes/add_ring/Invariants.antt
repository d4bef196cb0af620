-- The invariant of the loop of `add_ring` in src/changes.rt, and its measure.
use Rattle.std.proofs.Common.{◌-◌, ◌≤◌, ◌++◌, length, drop}
use Rattle.std.specs.Prelude.{flat_map}
use Rattle.ring_side.specs.declared.groups.Group.{Group}
use Rattle.ring_side.specs.SideChanges.{point_change, spots_of}
use Rattle.ring_side.specs.InsideGroups.{spots_in}
use Rattle.ring_side.specs.InsideLists.{AreOnWay}
use Rattle.ring_side.proofs.PointGroups.Candidates.{done_at}
use Rattle.ring_side.proofs.changes.add_ring.Given as goal

abbrev pub invariant-loop-place : goal.invariant-loop-place
invariant-loop-place l = (l.place ≤ length l.near.items) × AreOnWay l.most l.changes.items
    (flat_map (λ (g : Group). flat_map (point_change l.sheets l.images l.ring.layer l.ring.path) (spots_in g)) (drop (done_at l.near.items l.place) l.places.groups.items))
    (l.initial.changes.items ++ flat_map (point_change l.sheets l.images l.ring.layer l.ring.path) (spots_of l.sheets))

abbrev pub decreases-loop-place : goal.decreases-loop-place
decreases-loop-place l = length l.near.items - l.place
