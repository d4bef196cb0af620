-- Answers to the goals of `first_line` in src/lines.rt.
use Rattle.std.proofs.Common.{◌+◌}
use Rattle.wkt_layer.proofs.CodeReads.FirstLines.{one_line, line_before}
use Rattle.wkt_layer.proofs.lines.first_line.Goals as goal
use Rattle.plain_laws.proofs.Lists.{take_rest}

pub returns-in-Some-clause-lines : goal.returns-in-Some-clause-lines
returns-in-Some-clause-lines c = rw (take_rest c.args.text.now (c.in-Some.end + 1))
    (line_before c.args.text.now c.in-Some.end c.in-Some.ensures.0 c.in-Some.ensures.1)

pub returns-in-None-clause-lines : goal.returns-in-None-clause-lines
returns-in-None-clause-lines c = one_line c.args.text.now c.in-None.ensures
