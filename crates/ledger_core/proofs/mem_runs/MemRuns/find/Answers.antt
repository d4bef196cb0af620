-- Answers to the goals of `MemRuns::find` in src/mem_runs.rt.
use Rattle.std.proofs.Common.{arith, ◌≡◌, suc, ap, sym, subst, ◌∙◌, List, None, Some, ◌+◌}
use Rattle.std.specs.List.{position}
use Rattle.std.specs.Option.{option_map}
use Rattle.ledger_core.specs.declared.pairs.Seal.{Seal}
use Rattle.ledger_core.specs.contracts.pairs.SealPartialEq.TheImpl as equality
use Rattle.ledger_core.specs.Kept.{Kept, run_of}
use Rattle.ledger_core.proofs.RunSeals.{run-of-seal}
use Rattle.ledger_core.proofs.mem_runs.MemRuns.find.Goals as goal

pub returns-in-Some : goal.returns-in-Some
returns-in-Some c =
    let seal = c.args.seal.now in
    let next : c.in-Some.at + 1 ≡ suc c.in-Some.at = omega arith in
    subst (λ (all : Kept). Some (c.in-Some.at + 1) ≡ run_of all.runs seal) c.self.view_is
    (ap Some next ∙ sym (run-of-seal seal c.self.inside.runs.items
    ∙ ap (λ (seals : List Seal). option_map suc (position ((equality.eq-value).it seal) seals)) (sym c.self.invariant.seals)
    ∙ ap (option_map suc) (sym c.in-Some.ensures.index)))

pub returns-in-None : goal.returns-in-None
returns-in-None c =
    let seal = c.args.seal.now in
    subst (λ (all : Kept). None ≡ run_of all.runs seal) c.self.view_is
    (sym (run-of-seal seal c.self.inside.runs.items
    ∙ ap (λ (seals : List Seal). option_map suc (position ((equality.eq-value).it seal) seals)) (sym c.self.invariant.seals)
    ∙ ap (option_map suc) (sym c.in-None.ensures.index)))
