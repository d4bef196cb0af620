-- The invariant of the loop of `grid_in` in src/boxes.rt.
use Rattle.tin_check.specs.TriangleBoxes.{AreBoxesIn}
use Rattle.tin_check.proofs.boxes.grid_in.Given as goal

-- the boxes of the triangles so far are listed
abbrev pub invariant-loop-triangle : goal.invariant-loop-triangle
invariant-loop-triangle l = AreBoxesIn l.tin l.frame l.triangle l.boxes.items
