-- The invariant and the measure of the loop of `around_triangles` in src/border_fits.rt.
use Rattle.std.proofs.Common.{◌-◌}
use Rattle.tin_check.specs.InsideSideTrees.{AreTrianglesIn}
use Rattle.tin_check.proofs.border_fits.around_triangles.Given as goal

-- the box has the triangles so far
abbrev pub invariant-loop-triangle : goal.invariant-loop-triangle
invariant-loop-triangle l = AreTrianglesIn l.tin l.frame l.first l.triangle l.around

abbrev pub decreases-loop-triangle : goal.decreases-loop-triangle
decreases-loop-triangle l = l.past - l.triangle
