-- Answers to the goals of `mark_end` in src/json_texts.rt.
use Rattle.std.proofs.Common.{arith}
use Rattle.jtext.proofs.CodeReads.Reaches.{start_reached, mark_reached, mark_bad}
use Rattle.jtext.proofs.json_texts.mark_end.Goals as goal

pub returns-then-bytes-eq0 : goal.returns-then-bytes-eq0
returns-then-bytes-eq0 c = start_reached c.args.bytes.now (λ inside first. absurd (omega arith))

pub returns-then-bytes : goal.returns-then-bytes
returns-then-bytes c = start_reached c.args.bytes.now (λ inside first. c.if-bytes.true first)

pub returns-in-Ok : goal.returns-in-Ok
returns-in-Ok c = mark_reached c.args.bytes.now (omega arith) c.if-bytes.false c.in-Ok.end c.in-Ok.ensures

pub returns-in-Err : goal.returns-in-Err
returns-in-Err c = mark_bad c.args.bytes.now (omega arith) c.if-bytes.false c.in-Err.wrong c.in-Err.ensures
