-- Answers to the goals of `around_part` in src/trees.rt.
use Rattle.ring_side.proofs.RingBoxes.RingParts.{around_more}
use Rattle.ring_side.proofs.trees.around_part.Goals as goal

pub loop-p-preserved : goal.loop-p-preserved
loop-p-preserved c =
    around_more c.loop-p.around c.with_point-around.result _ c.between-part.result.now c.loop-p.p-index c.loop-p-test.true
    c.with_point-around.ensures c.loop-p.invariant
