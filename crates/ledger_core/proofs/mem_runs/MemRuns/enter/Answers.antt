-- Answers to the goals of `MemRuns::enter` in src/mem_runs.rt.
use Rattle.std.proofs.Common.{rules, arith, ◌≡◌, ◌≤◌, ◌+◌, [], ◌∷◌, ◌++◌, ap, sym, subst, ◌∙◌, length, map, None, IsOk, List}
use Rattle.std.specs.List.{flat_map}
use Rattle.std.proofs.lemmas.List.{length-append, length-map, map-append}
use Rattle.indexmap.specs.IndexSet.{insert_key}
use Rattle.ledger_core.specs.declared.limits.TheConstants.{MOST_RUNS}
use Rattle.ledger_core.specs.declared.pairs.Seal.{Seal}
use Rattle.ledger_core.specs.declared.mem_runs.RunPairs.{RunPairs}
use Rattle.ledger_core.specs.contracts.pairs.SealPartialEq.TheImpl as equality
use Rattle.ledger_core.specs.Kept.{Kept, HasRoom, run_of, with_new_run, undecided_from}
use Rattle.ledger_core.specs.MemoryRuns.{seal_of, rows_of, entry_of_run, all_of, AreRuns}
use Rattle.ledger_core.proofs.RunLists.{one-more, one-more-count, one-more-runs}
use Rattle.ledger_core.proofs.RunSeals.{new-seal}
use Rattle.ledger_core.proofs.mem_runs.MemRuns.enter.Goals as goal

pub invariant_of-self-2 : goal.invariant_of-self-2
invariant_of-self-2 c =
    let runs = c.self.inside.runs.items in
    let seal = c.args.seal.now in
    let changes = c.args.changes.now in
    let run : RunPairs = record { seal = seal; rows = c.in_ok-rows.rows } in
    let rows : run.rows.items ≡ undecided_from (length runs + 1) 0 changes = search rules in
    let new : run_of (map entry_of_run runs) seal ≡ None =
    subst (λ (all : Kept). run_of all.runs seal ≡ None) (sym c.self.view_is) c.requires.new in
    let room : HasRoom (all_of runs) changes = subst (λ (all : Kept). HasRoom all changes) (sym c.self.view_is) c.requires.room in
    let ok : IsOk c.push.result = search rules in
    let all : c.push.new.self.items ≡ runs ++ run ∷ [] = search (rules, ok) in
    let keys : c.insert.new.self.keys ≡ insert_key ((equality.eq-value).it) c.self.inside.seals.keys seal = search rules in
    let count = one-more-count runs run changes rows in
    record {
      few = subst (λ (rs : List RunPairs). length rs ≤ MOST_RUNS) (sym all)
          (omega (arith, length-append runs (run ∷ []), length-map runs entry_of_run, room.0));
      count = subst (λ (rs : List RunPairs). c.self.inside.pairs + length changes ≡ length (flat_map rows_of rs)) (sym all)
          (omega (arith, count, c.self.invariant.count));
      within = omega (arith, room.1, c.self.invariant.count);
      seals = subst (λ (rs : List RunPairs). c.insert.new.self.keys ≡ map seal_of rs) (sym all)
          (keys ∙ ap (λ (ks : List Seal). insert_key ((equality.eq-value).it) ks seal) c.self.invariant.seals
          ∙ new-seal seal runs new ∙ sym (map-append seal_of runs (run ∷ [])));
      runs = subst (λ (rs : List RunPairs). AreRuns 1 rs) (sym all) (one-more-runs runs run changes rows c.self.invariant.runs);
    }

pub returns-clause-ok : goal.returns-clause-ok
returns-clause-ok c =
    let runs = c.self.inside.runs.items in
    let seal = c.args.seal.now in
    let changes = c.args.changes.now in
    let run : RunPairs = record { seal = seal; rows = c.in_ok-rows.rows } in
    let rows : run.rows.items ≡ undecided_from (length runs + 1) 0 changes = search rules in
    let ok : IsOk c.push.result = search rules in
    let all : c.push.new.self.items ≡ runs ++ run ∷ [] = search (rules, ok) in
    ap all_of all ∙ one-more runs run changes rows ∙ ap (with_new_run seal changes) c.self.view_is
