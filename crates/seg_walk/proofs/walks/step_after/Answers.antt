-- Answers to the goals of `step_after` in src/walks.rt.
use Rattle.std.proofs.Common.{subst}
use Rattle.tin_base.specs.Limits.{IsWithinLimits}
use Rattle.tin_base.specs.Triangulation.{Triangulation}
use Rattle.tin_base.proofs.SegmentSpots.SlicedParts.{params}
use Rattle.seg_walk.proofs.Leave.{left_at, not_at_end}
use Rattle.seg_walk.proofs.walks.step_after.Goals as goal

pub step_over-requires-clause-param : goal.step_over-requires-clause-param
step_over-requires-clause-param c =
    let ends = params c.args.index.now c.args.a c.args.b c.args.step.tri c.args.step.slice
    (subst (λ (tin : Triangulation). IsWithinLimits tin) c.tin.ensures c.show_soundness.ensures.limits) c.requires.in_range
    c.requires.slice in ends.hi

pub step_over-requires-clause-left : goal.step_over-requires-clause-left
step_over-requires-clause-left c =
    left_at c.args.index.now c.args.a c.args.b c.args.step.tri c.in-Side.side c.args.step.slice
    (subst (λ (tin : Triangulation). IsWithinLimits tin) c.tin.ensures c.show_soundness.ensures.limits) c.requires.in_range
    c.requires.slice c.in-Side.is

pub returns-in-Vertex : goal.returns-in-Vertex
returns-in-Vertex c =
    absurd (not_at_end c.args.index.now c.args.a c.args.b c.args.step.tri c.args.step.slice
    (subst (λ (tin : Triangulation). IsWithinLimits tin) c.tin.ensures c.show_soundness.ensures.limits) c.requires.in_range
    c.requires.slice c.in-Vertex.is c.requires.before_end)
