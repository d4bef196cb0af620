-- Answers to the goals of `read_lines` in src/scripts.rt.
use Rattle.std.proofs.Common.{rules, ◌≡◌, ◌<◌, length, IsOk, [], ◌∷◌, ◌++◌}
use Rattle.std.proofs.lemmas.Result.{err_from_is_err_and}
use Rattle.ledger_runs.proofs.LineSplits.{read-line, read-fails, read-all}
use Rattle.ledger_runs.proofs.scripts.read_lines.Goals as goal

pub returns-in_err-next-clause-err : goal.returns-in_err-next-clause-err
returns-in_err-next-clause-err c =
    let p = err_from_is_err_and c.from_residual.result c.from_residual.ensures.1 in
    let some : 0 < length c.loop-rest.rest.now = search rules in
    let long : 0 < length c.first_line.result.0.now = search rules in
    rw (p.1, p.2)
    (read-fails c.args.text.now c.loop-rest.rest.now c.first_line.result.0.now c.first_line.result.1.now c.loop-rest.number
    c.loop-rest.asked.items c.in_err-next.field-0.0 c.loop-rest.invariant some c.first_line.ensures long
    c.in_err-next.ensures.err)

pub loop-rest-preserved-else-is_err : goal.loop-rest-preserved-else-is_err
loop-rest-preserved-else-is_err c =
    let some : 0 < length c.loop-rest.rest.now = search rules in
    let long : 0 < length c.first_line.result.0.now = search rules in
    let ok : IsOk c.push.result = search rules in
    let added : c.push.new.self.items ≡ c.loop-rest.asked.items ++ c.in_ok-next.next ∷ [] = search (rules, ok) in
    read-line c.args.text.now c.loop-rest.rest.now c.first_line.result.0.now c.first_line.result.1.now c.loop-rest.number
    c.loop-rest.asked.items c.push.new.self.items c.in_ok-next.next c.loop-rest.invariant some c.first_line.ensures long
    c.in_ok-next.ensures.ok.0 c.in_ok-next.ensures.ok.1 added

pub returns-clause-ok : goal.returns-clause-ok
returns-clause-ok c =
    let none : length c.loop-rest.rest.now ≡ 0 = search rules in
    read-all c.args.text.now c.loop-rest.rest.now c.loop-rest.number c.loop-rest.asked.items c.loop-rest.invariant none
