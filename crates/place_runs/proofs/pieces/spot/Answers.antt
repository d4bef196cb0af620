-- Answers to the goals of `spot` in src/pieces.rt.
use Rattle.place_runs.proofs.PrintedMaps.ChangePieces.{spot_in_words}
use Rattle.place_runs.proofs.pieces.spot.Goals as goal

pub returns-clause-spot : goal.returns-clause-spot
returns-clause-spot c =
    let on = c.args.map.now in
    spot_in_words on.pieces.items on.texts.items on.places.items c.args.change c.piece_at-p.result c.piece_at-q.result
    c.side.result c.side-2.result c.gap.result c.nearest_end.result
    (rw c.deref-3.ensures.value at c.side.ensures) (rw c.deref-4.ensures.value at c.side-2.ensures)
    (rw c.deref.ensures.value at c.piece_at-p.ensures) (rw c.deref-2.ensures.value at c.piece_at-q.ensures)
    c.gap.ensures c.nearest_end.ensures
