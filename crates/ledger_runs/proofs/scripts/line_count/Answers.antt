-- Answers to the goals of `line_count` in src/scripts.rt.
use Rattle.std.proofs.Common.{rules, arith, ◌<◌, ◌^◌, length}
use Rattle.ledger_runs.proofs.LineSplits.{lines-few, counted-more}
use Rattle.ledger_runs.proofs.scripts.line_count.Goals as goal

pub overflow_add-count : goal.overflow_add-count
overflow_add-count c =
    let some : 0 < length c.loop-rest.rest.now = search rules in
    let next = counted-more c.args.text.now c.loop-rest.rest.now c.first_line.result.0.now c.first_line.result.1.now
    c.loop-rest.count c.loop-rest.invariant some c.first_line.ensures in
    let few = lines-few c.args.text.now in
    let long : length c.args.text.now < 2 ^ 64 = search rules in
    omega (arith, next.all, few, long)

pub loop-rest-preserved : goal.loop-rest-preserved
loop-rest-preserved c =
    let some : 0 < length c.loop-rest.rest.now = search rules in
    counted-more c.args.text.now c.loop-rest.rest.now c.first_line.result.0.now c.first_line.result.1.now
    c.loop-rest.count c.loop-rest.invariant some c.first_line.ensures
