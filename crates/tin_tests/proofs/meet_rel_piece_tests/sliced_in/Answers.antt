-- Answers to the goals of `sliced_in` in src/meet_rel_piece_tests.rt.
use Rattle.tin_base.proofs.SegmentSpots.SlicedParts.{slice_told}
use Rattle.tin_tests.proofs.meet_rel_piece_tests.sliced_in.Goals as goal

pub returns-clause-some : goal.returns-clause-some
returns-clause-some c = slice_told c.args.tin.now c.args.a c.args.b c.tri-tri.result c.args.triangle c.slice.result
    c.tri-tri.ensures.corners c.slice.ensures.common c.slice.ensures.ends c.slice.ensures.point
