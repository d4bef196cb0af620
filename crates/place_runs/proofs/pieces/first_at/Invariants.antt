-- The invariant of the loop of `first_at` in src/pieces.rt.
use Rattle.std.proofs.Common.{drop}
use Rattle.place_runs.specs.InsidePieces.{HasPiece}
use Rattle.place_runs.proofs.pieces.first_at.Given as goal

abbrev pub invariant-loop-piece : goal.invariant-loop-piece
invariant-loop-piece l = HasPiece (drop l.piece-index l.pieces) l.place
