-- Answers to the goals of `push_text` in src/rendering.rt.
use Rattle.std.proofs.Common.{arith}
use Rattle.std.proofs.lemmas.Grind.{common_steps}
use Rattle.dxf_copies.proofs.rendering.push_text.Goals as goal

pub returns-in-Some : goal.returns-in-Some
returns-in-Some c = grind (arith, common_steps)

pub returns-in-Some-first_entity : goal.returns-in-Some-first_entity
returns-in-Some-first_entity c = grind (arith, common_steps)

pub returns-in-None : goal.returns-in-None
returns-in-None c = grind (arith, common_steps)

pub returns-in-None-first_entity : goal.returns-in-None-first_entity
returns-in-None-first_entity c = grind (arith, common_steps)
