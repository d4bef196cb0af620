-- Answers to the goals of `behind_line` in src/lines.rt.
use Rattle.cert_check.proofs.LineLaws.{on_more, on_last, on_none}
use Rattle.cert_check.proofs.lines.behind_line.Goals as goal

pub returns-then-ended-clause-some : goal.returns-then-ended-clause-some
returns-then-ended-clause-some c =
    on_last c.args.text.now c.loop-ended.rest.now c.in-Some.ended.number c.in-Some.ended.last c.in-Some.ended.rest.now
    c.loop-ended.invariant c.if-ended.true c.in-Some.ensures.some

pub loop-ended-preserved : goal.loop-ended-preserved
loop-ended-preserved c =
    on_more c.args.text.now c.loop-ended.rest.now c.in-Some.ended.number c.in-Some.ended.last c.in-Some.ended.rest.now
    c.loop-ended.invariant c.if-ended.false c.in-Some.ensures.some

pub returns-clause-none : goal.returns-clause-none
returns-clause-none c = on_none c.args.text.now c.loop-ended.rest.now c.loop-ended.invariant c.in_default.ensures.none
