-- Answers to the goals of `first_vertex` in src/polylines.rt.
use Rattle.std.proofs.Common.{arith}
use Rattle.std.proofs.lemmas.Grind.{common_steps}
use Rattle.dxf_entities.proofs.polylines.first_vertex.Goals as goal

pub returns-in_err-vertex-clause-first : goal.returns-in_err-vertex-clause-first
returns-in_err-vertex-clause-first c = grind (arith, common_steps)

pub returns-in_ok-vertex-clause-first : goal.returns-in_ok-vertex-clause-first
returns-in_ok-vertex-clause-first c = grind (arith, common_steps)
