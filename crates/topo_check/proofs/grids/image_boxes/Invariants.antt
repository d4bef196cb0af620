-- The invariant and the measure of the loop of `image_boxes` in src/grids.rt.
use Rattle.std.proofs.Common.{length, ◌-◌}
use Rattle.topo_check.specs.InsideImages.{IsImageBox}
use Rattle.topo_check.proofs.Spans.{AreBoxesSoFar}
use Rattle.topo_check.proofs.grids.image_boxes.Given as goal

-- the boxes of the pieces so far are listed
abbrev pub invariant-loop-number : goal.invariant-loop-number
invariant-loop-number l = AreBoxesSoFar (IsImageBox l.tin) l.pieces l.boxes.items l.number

abbrev pub decreases-loop-number : goal.decreases-loop-number
decreases-loop-number l = length l.pieces - l.number
