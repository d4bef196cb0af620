-- The invariant and the measure of the loop of `cut_way` in src/cuts.rt.
use Rattle.std.proofs.Common.{map, length}
use Rattle.seg_walk.specs.Steps.{part_of}
use Rattle.tin_base.proofs.PieceChains.UnusedTriangles.{unused}
use Rattle.seg_walk.proofs.StepPieces.{IsOnWay}
use Rattle.seg_walk.proofs.cuts.cut_way.Given as goal

abbrev pub invariant-loop-next : goal.invariant-loop-next
invariant-loop-next l = IsOnWay l.index l.a l.b l.steps.items l.next

-- the triangles that no piece is of yet
abbrev pub decreases-loop-next : goal.decreases-loop-next
decreases-loop-next l = unused (map part_of l.steps.items) (length l.index.triangles)
