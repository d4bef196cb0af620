-- Answers to the goals of `MemRuns::next` in src/mem_runs.rt.
use Rattle.std.proofs.Common.{rules, arith, ◌≡◌, ◌≤◌, ap, sym, subst, ◌∙◌, length, drop, None, Some, List}
use Rattle.std.specs.List.{flat_map}
use Rattle.ledger_core.specs.declared.pairs.PairRow.{PairRow}
use Rattle.ledger_core.specs.declared.limits.TheConstants.{MOST_PAIRS}
use Rattle.ledger_core.specs.Kept.{Kept, next_open}
use Rattle.ledger_core.specs.MemoryRuns.{run_at, rows_of}
use Rattle.ledger_core.proofs.RunRows.{next-none, next-some, next-within}
use Rattle.ledger_core.proofs.mem_runs.MemRuns.next.Goals as goal

pub returns-in_err-found-clause-found : goal.returns-in_err-found-clause-found
returns-in_err-found-clause-found c =
    let none : run_at c.self.inside.runs.items c.args.run ≡ None = search rules in
    subst (λ (all : Kept). c.from_residual.result ≡ next_open all.pairs c.args.run c.args.from) c.self.view_is
    (c.from_residual.ensures ∙ sym (next-none c.self.inside.runs.items c.args.run c.args.from c.self.invariant.runs none))

pub returns-clause-found : goal.returns-clause-found
returns-clause-found c =
    let found = c.in_ok-found.found.now in
    let is : run_at c.self.inside.runs.items c.args.run ≡ Some found = search rules in
    let rest : c.rows_from.result.now ≡ drop c.args.from found.rows.items = search rules in
    subst (λ (all : Kept). c.find_open.result ≡ next_open all.pairs c.args.run c.args.from) c.self.view_is
    (c.find_open.ensures ∙ ap (λ (rows : List PairRow). next_open rows c.args.run c.args.from) rest
    ∙ sym (next-some c.self.inside.runs.items c.args.run c.args.from found c.self.invariant.runs is))

pub returns-clause-within : goal.returns-clause-within
returns-clause-within c =
    let found = c.in_ok-found.found.now in
    let runs = c.self.inside.runs.items in
    let is : run_at runs c.args.run ≡ Some found = search rules in
    let rest : c.rows_from.result.now ≡ drop c.args.from found.rows.items = search rules in
    let first : c.find_open.result ≡ next_open (flat_map rows_of runs) c.args.run c.args.from =
    c.find_open.ensures ∙ ap (λ (rows : List PairRow). next_open rows c.args.run c.args.from) rest
    ∙ sym (next-some runs c.args.run c.args.from found c.self.invariant.runs is) in
    let small : length (flat_map rows_of runs) ≤ MOST_PAIRS =
    omega (arith, c.self.invariant.count, c.self.invariant.within) in
    next-within runs c.args.run c.args.from MOST_PAIRS found c.find_open.result c.self.invariant.runs is small first
