-- The invariant of the loop of `orient` in src/orientations.rt.
use Rattle.std.proofs.Common.{◌≡◌, ◌++◌, take, drop, map}
use Rattle.tin_file.specs.Corners.{counterclockwise_face}
use Rattle.tin_file.proofs.orientations.orient.Given as goal

-- the triangles before the present one are turned
abbrev pub invariant-loop-triangle : goal.invariant-loop-triangle
invariant-loop-triangle l = l.triangles ≡ map (counterclockwise_face l.corners) (take l.triangle-index l.initial.triangles)
    ++ drop l.triangle-index l.initial.triangles
