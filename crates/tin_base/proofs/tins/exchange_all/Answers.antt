-- Answers to the goals of `exchange_all` in src/tins.rt.
use Rattle.tin_base.proofs.FrameImages.FrameExchange.{step}
use Rattle.tin_base.proofs.tins.exchange_all.Goals as goal

pub loop-corner-preserved : goal.loop-corner-preserved
loop-corner-preserved c = step c.args.corners.now c.loop-corner.corners c.loop-corner.corner-index _ c.with_frames_exchanged.result
    c.loop-corner-test.true c.loop-corner.invariant c.with_frames_exchanged.ensures
