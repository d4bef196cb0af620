-- Answers to the goals of `list_count` in src/lines.rt.
use Rattle.std.proofs.Common.{◌+◌, ap}
use Rattle.cert_check.proofs.LineLaws.{bad_line}
use Rattle.cert_check.proofs.lines.list_count.Goals as goal

pub returns-in-Err-clause-bad : goal.returns-in-Err-clause-bad
returns-in-Err-clause-bad c =
    bad_line c.args.bytes.now c.in-Some.text.now c.in-Err.count (c.from.result + 2) c.in-Some.ensures.some
    c.in-Err.ensures.bad (ap (λ n. n + 2) c.from.ensures)
