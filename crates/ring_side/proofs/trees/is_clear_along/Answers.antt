-- Answers to the goals of `is_clear_along` in src/trees.rt.
use Rattle.ring_side.proofs.RingBoxes.ClearNodes.{clear_segment}
use Rattle.std.proofs.Common.{arith}
use Rattle.ring_side.proofs.trees.is_clear_along.Goals as goal

pub loop-to-preserved : goal.loop-to-preserved
loop-to-preserved c = grind (arith, clear_segment)
