-- Answers to the goals of `part_from` in src/parts.rt.
use Rattle.std.proofs.Common.{arith}
use Rattle.tin_base.proofs.SegmentSpots.SlicedParts.{not_begun}
use Rattle.cert_check.proofs.Stretches.{part_here}
use Rattle.cert_check.proofs.ListPasses.{refused}
use Rattle.cert_check.proofs.parts.part_from.Goals as goal

pub returns-then-goes_on_from-clause-some : goal.returns-then-goes_on_from-clause-some
returns-then-goes_on_from-clause-some c =
    part_here c.args.tin.now c.args.a c.args.b c.args.triangle c.in-Some.stretch c.args.at c.show_soundness.ensures.limits
    (omega arith) c.in-Some.ensures.some c.in-Some.ensures.near c.requires.param
    (c.goes_on_from.ensures.0 c.if-goes_on_from.true)

pub returns-else-goes_on_from-clause-none : goal.returns-else-goes_on_from-clause-none
returns-else-goes_on_from-clause-none c =
    λ inside first last p begins. not_begun c.args.tin.now c.args.a c.args.b c.args.triangle c.in-Some.stretch c.args.at
    first last c.show_soundness.ensures.limits (omega arith) c.in-Some.ensures.some c.requires.param
    (refused c.goes_on_from.result _ c.if-goes_on_from.false c.goes_on_from.ensures) p begins

pub returns-in_default-clause-none : goal.returns-in_default-clause-none
returns-in_default-clause-none c = λ inside first last part begins. c.in_default.ensures.none inside first
    part.has_first
