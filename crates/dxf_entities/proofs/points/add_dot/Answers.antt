-- Answers to the goals of `add_dot` in src/points.rt.
use Rattle.std.proofs.Common.{arith}
use Rattle.std.proofs.lemmas.Grind.{common_steps}
use Rattle.dxf_entities.proofs.points.add_dot.Goals as goal

pub returns-clause-grown : goal.returns-clause-grown
returns-clause-grown c = grind (arith, common_steps)
