-- Answers to the goals of `is_zero_at` in src/courses.rt.
use Rattle.std.proofs.Common.{ap, of_z}
use mir.Syntax.{w128}
use Rattle.plane_base.proofs.CommonParts.Parts.{zero_by_order}
use Rattle.plane_base.proofs.courses.is_zero_at.Goals as goal

pub returns-then-course : goal.returns-then-course
returns-then-course c =
    zero_by_order c.args.course.start c.args.course.end c.zero_of.result c.args.at c.order.result c.eq.result
    (λ e. c.if-course.true (ap (of_z w128) e)) c.zero_of.ensures.zero c.zero_of.ensures.once c.order.ensures.cases
    c.eq.ensures
