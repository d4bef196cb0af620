-- Answers to the goals of `nearest_end` in src/nearest.rt.
use Rattle.seg_gap.specs.InsideSquares.{square_in}
use Rattle.seg_gap.proofs.NearestEnds.{nearest_among}
use Rattle.seg_gap.proofs.nearest.nearest_end.Goals as goal

pub returns : goal.returns
returns c =
    nearest_among c.args.a c.args.b c.args.c c.args.d (square_in c.square_of.result) (square_in c.square_of-2.result)
    (square_in c.square_of-3.result) (square_in c.square_of-4.result) (square_in c.nearer-first.result)
    (square_in c.nearer-second.result) (square_in c.nearer.result) c.square_of.ensures c.square_of-2.ensures
    c.square_of-3.ensures c.square_of-4.ensures c.nearer-first.ensures c.nearer-second.ensures c.nearer.ensures
