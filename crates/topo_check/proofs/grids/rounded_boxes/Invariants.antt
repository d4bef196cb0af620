-- The invariant of the loop of `rounded_boxes` in src/grids.rt.
use Rattle.topo_check.specs.InsideBoxes.{IsRoundedBox}
use Rattle.topo_check.proofs.Spans.{AreBoxesSoFar}
use Rattle.topo_check.proofs.grids.rounded_boxes.Given as goal

-- the boxes of the pieces so far are listed
abbrev pub invariant-loop-piece : goal.invariant-loop-piece
invariant-loop-piece l = AreBoxesSoFar IsRoundedBox l.pieces l.boxes.items l.piece-index
