-- Answers to the goals of `pairs_before_head` in src/entities.rt.
use Rattle.std.proofs.Common.{arith}
use Rattle.std.proofs.lemmas.Grind.{common_steps}
use Rattle.dxf_entities.proofs.entities.pairs_before_head.Goals as goal

pub loop-count-preserved : goal.loop-count-preserved
loop-count-preserved c = grind (arith, common_steps)
