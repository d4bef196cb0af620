-- Answers to the goals of `MemRuns::pair` in src/mem_runs.rt.
use Rattle.std.proofs.Common.{rules, ◌≡◌, sym, subst, ◌∙◌, None, Some, slice_get}
use Rattle.ledger_core.specs.Kept.{Kept, pair_at}
use Rattle.ledger_core.specs.MemoryRuns.{run_at}
use Rattle.ledger_core.proofs.RunRows.{pair-none, pair-some}
use Rattle.ledger_core.proofs.mem_runs.MemRuns.pair.Goals as goal

pub returns-in_err-found : goal.returns-in_err-found
returns-in_err-found c =
    let none : run_at c.self.inside.runs.items c.args.run ≡ None = search rules in
    subst (λ (all : Kept). c.from_residual.result ≡ pair_at all.pairs c.args.run c.args.place) c.self.view_is
    (c.from_residual.ensures ∙ sym (pair-none c.self.inside.runs.items c.args.run c.args.place c.self.invariant.runs none))

pub returns : goal.returns
returns c =
    let found = c.in_ok-found.found.now in
    let is : run_at c.self.inside.runs.items c.args.run ≡ Some found = search rules in
    let row : c.row_at.result ≡ slice_get found.rows.items c.args.place = search rules in
    subst (λ (all : Kept). c.row_at.result ≡ pair_at all.pairs c.args.run c.args.place) c.self.view_is
    (row ∙ sym (pair-some c.self.inside.runs.items c.args.run c.args.place found c.self.invariant.runs is))
