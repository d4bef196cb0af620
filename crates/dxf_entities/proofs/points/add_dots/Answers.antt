-- Answers to the goals of `add_dots` in src/points.rt.
use Rattle.std.proofs.Common.{arith}
use Rattle.std.proofs.lemmas.Grind.{common_steps}
use Rattle.dxf_entities.proofs.points.add_dots.Goals as goal

pub add_dot-requires-in-Some : goal.add_dot-requires-in-Some
add_dot-requires-in-Some c = grind (arith, common_steps)

pub returns-in_default-clause-grown : goal.returns-in_default-clause-grown
returns-in_default-clause-grown c = grind (arith, common_steps)

pub returns-in_ok-add_dot-2-clause-grown : goal.returns-in_ok-add_dot-2-clause-grown
returns-in_ok-add_dot-2-clause-grown c = grind (arith, common_steps)
