-- Answers to the goals of `read_number` in src/points.rt.
use Rattle.tin_height.proofs.PointLines.{number_within}
use Rattle.tin_height.proofs.points.read_number.Goals as goal

pub returns-clause-reach : goal.returns-clause-reach
returns-clause-reach c =
    rw (c.accept.ensures, c.read_mm.ensures.measured) (number_within c.args.how _ _ _)
