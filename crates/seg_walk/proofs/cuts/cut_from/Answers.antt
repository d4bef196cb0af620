-- Answers to the goals of `cut_from` in src/cuts.rt.
use Rattle.tin_base.proofs.SegmentSpots.Spots.{first_inside}
use Rattle.seg_walk.proofs.cuts.cut_from.Goals as goal

pub returns-in_default-clause-outside : goal.returns-in_default-clause-outside
returns-in_default-clause-outside c = λ _ inside. c.in_default.ensures.outside
    (first_inside c.args.index.now c.args.a c.args.b inside)
