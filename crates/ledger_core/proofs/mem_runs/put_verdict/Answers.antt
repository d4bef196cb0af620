-- Answers to the goals of `put_verdict` in src/mem_runs.rt.
use Rattle.std.proofs.Common.{arith, refl, ◌-◌, slice_index_or}
use Rattle.ledger_core.specs.declared.mem_runs.RunPairs.{RunPairs}
use Rattle.ledger_core.proofs.RunRows.{there}
use Rattle.ledger_core.proofs.RunLists.{put-at, put-nowhere}
use Rattle.ledger_core.proofs.mem_runs.put_verdict.Goals as goal

pub returns-then-number-eq0 : goal.returns-then-number-eq0
returns-then-number-eq0 c are =
    put-nowhere c.args.number c.args.place c.args.verdict c.args.runs.now
    (λ more. absurd (omega (arith, more, c.if-number-eq0.true))) are

pub returns-then-at-runs : goal.returns-then-at-runs
returns-then-at-runs c are =
    let runs = c.args.runs.now in
    let at = c.args.number - 1 in
    let run : RunPairs = slice_index_or runs at c.index-runs-at.result in
    put-at c.args.number c.args.place c.args.verdict at runs run _ (omega (arith, c.if-number-eq0.false))
    (there runs at c.index-runs-at.result c.if-at-runs.true)
    (record { seal = refl; rows = c.put_verdict_in.ensures }) are

pub returns-else-at-runs : goal.returns-else-at-runs
returns-else-at-runs c are =
    put-nowhere c.args.number c.args.place c.args.verdict c.args.runs.now
    (λ more. omega (arith, more, c.if-at-runs.false)) are
