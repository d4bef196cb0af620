-- Answers to the goals of `first_at` in src/pieces.rt.
use Rattle.place_runs.proofs.PrintedMaps.ChangePieces.{left_behind}
use Rattle.place_runs.proofs.pieces.first_at.Goals as goal

pub loop-piece-preserved : goal.loop-piece-preserved
loop-piece-preserved c =
    left_behind c.args.pieces.now c.loop-piece.piece-index _ c.args.place c.loop-piece-test.true
    (λ same. let no = c.if-is_at.false in let yes = c.is_at.ensures.1 same in cc) c.loop-piece.invariant
