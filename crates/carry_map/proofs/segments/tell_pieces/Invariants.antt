-- The invariant of the loop of `tell_pieces` in src/segments.rt.
use Rattle.carry_map.proofs.StepPieces.{AreToldSoFar}
use Rattle.carry_map.proofs.segments.tell_pieces.Given as goal

-- the pieces of the steps so far come after those before
abbrev pub invariant-loop-number : goal.invariant-loop-number
invariant-loop-number l = AreToldSoFar l.tin l.way.a l.way.b l.way.from l.steps l.number l.start l.fn.pieces.items
    l.pieces.items
