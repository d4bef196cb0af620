-- Answers to the goals of `past_group` in src/polylines.rt.
use Rattle.std.proofs.Common.{arith}
use Rattle.std.proofs.lemmas.Grind.{common_steps}
use Rattle.dxf_entities.proofs.polylines.past_group.Goals as goal

pub returns-in-Some : goal.returns-in-Some
returns-in-Some c = grind (arith, common_steps)

pub loop-pair-preserved : goal.loop-pair-preserved
loop-pair-preserved c = grind (arith, common_steps)

pub returns-then-not-is_group_code : goal.returns-then-not-is_group_code
returns-then-not-is_group_code c = grind (arith, common_steps)
