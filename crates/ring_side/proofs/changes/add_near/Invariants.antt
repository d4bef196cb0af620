-- The invariant of the loop of `add_near` in src/changes.rt, and its measure.
use Rattle.std.proofs.Common.{◌≤◌}
use Rattle.ring_side.specs.InsideNear.{AreSifted}
use Rattle.ring_side.proofs.changes.add_near.Given as goal

abbrev pub invariant-loop-place : goal.invariant-loop-place
invariant-loop-place l = (l.first ≤ l.place) × (l.place ≤ l.past) × AreSifted l.ring l.places l.numbers.items l.place

abbrev pub decreases-loop-place : goal.decreases-loop-place
decreases-loop-place l = l.place
