-- Answers to the goals of `box_of_corners` in src/strays.rt.
use Rattle.run_notes.proofs.LeastBoxes.{least-more}
use Rattle.run_notes.proofs.strays.box_of_corners.Goals as goal

pub loop-corner-preserved : goal.loop-corner-preserved
loop-corner-preserved c = least-more c.args.frame c.args.first c.args.rest.now c.loop-corner.corner-index _
    c.at-in-loop-corner.result c.loop-corner.found c.with_point-found.result c.loop-corner.invariant
    c.loop-corner-test.true c.at-in-loop-corner.ensures c.with_point-found.ensures
