-- Answers to the goals of `sides_without_mates` in src/borders.rt.
use Rattle.std.proofs.Common.{arith}
use Rattle.tin_check.proofs.BorderLemmas.BorderSides.{all_listed}
use Rattle.tin_check.proofs.borders.sides_without_mates.Goals as goal

pub returns-clause-listed : goal.returns-clause-listed
returns-clause-listed c = all_listed c.args.tin.now c.args.mates.now c.loop-triangle.triangle
    c.loop-triangle.sides.items (omega arith) c.loop-triangle.invariant.0
