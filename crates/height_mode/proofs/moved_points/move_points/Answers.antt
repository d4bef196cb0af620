-- Answers to the goals of `move_points` in src/moved_points.rt.
use Rattle.height_mode.proofs.PointRefusals.{raise_refused}
use Rattle.height_mode.specs.Talls.{tall_of}
use Rattle.height_mode.proofs.moved_points.move_points.Goals as goal

pub returns-in-Err-raise-clause-refused : goal.returns-in-Err-raise-clause-refused
returns-in-Err-raise-clause-refused c =
    rw c.refuse_points.ensures (raise_refused c.args.how (tall_of c.args.tall.now) c.args.bytes.now c.in-Ok.points
    c.in-Err-raise.fault c.in-Ok.ensures.points (λ point is. c.in-Err-raise.ensures.outside point is))
