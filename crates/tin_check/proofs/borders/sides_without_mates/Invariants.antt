-- The invariant of the loop of `sides_without_mates` in src/borders.rt.
use Rattle.tin_check.specs.InsideBorders.{AreListed, AreSides}
use Rattle.tin_check.proofs.borders.sides_without_mates.Given as goal

-- the sides of the triangles so far are joined or listed
abbrev pub invariant-loop-triangle : goal.invariant-loop-triangle
invariant-loop-triangle l = AreListed l.tin l.mates l.triangle l.sides.items × AreSides l.tin l.sides.items
