-- Answers to the goals of `line_count` in src/lines.rt.
use Rattle.cert_check.proofs.LineLaws.{line_shorter, lines_more}
use Rattle.cert_check.proofs.lines.line_count.Goals as goal

pub loop-rest-smaller : goal.loop-rest-smaller
loop-rest-smaller c = line_shorter c.loop-rest.rest.now c.in-Some.behind.now c.in-Some.ensures.some

pub loop-rest-preserved : goal.loop-rest-preserved
loop-rest-preserved c = lines_more c.args.text.now c.loop-rest.rest.now c.in-Some.behind.now c.loop-rest.count
    c.loop-rest.invariant c.in-Some.ensures.some
