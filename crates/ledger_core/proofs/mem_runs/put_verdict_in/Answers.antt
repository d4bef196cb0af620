-- Answers to the goals of `put_verdict_in` in src/mem_runs.rt.
use Rattle.std.proofs.Common.{rules, ◌<◌, ◌≤◌, ap, ◌∙◌, length, slice_set}
use Rattle.ledger_core.specs.declared.pairs.PairRow.{PairRow}
use Rattle.ledger_core.proofs.RunRows.{put-row, put-past}
use Rattle.ledger_core.proofs.mem_runs.put_verdict_in.Goals as goal

pub returns-then-place-len : goal.returns-then-place-len
returns-then-place-len c =
    let rows = c.args.rows.now.items in
    let within : c.args.place < length rows = search rules in
    ap (λ (row : PairRow). slice_set rows c.args.place (record row { verdict = c.args.verdict })) c.index_mut.ensures.value
    ∙ put-row rows c.args.place c.args.verdict c.index_mut.result.now within

pub returns-else-place-len : goal.returns-else-place-len
returns-else-place-len c =
    let past : length c.args.rows.now.items ≤ c.args.place = search rules in
    put-past c.args.rows.now.items c.args.place c.args.verdict past
