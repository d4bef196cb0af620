-- Answers to the goals of `list_turn` in src/searches.rt.
use Rattle.std.proofs.Common.{subst, Option}
use Rattle.std.proofs.lemmas.Result.{err_from_is_err_and}
use Rattle.tin_faults.specs.declared.faults.Fault.{Fault}
use Rattle.tin_faults.specs.InsideProgress.{IsTurnFault}
use Rattle.tin_faults.proofs.Growth.{turn_added, turn_full, turn_fine}
use Rattle.tin_faults.proofs.searches.list_turn.Goals as goal

pub returns-in_err-add-clause-too_many : goal.returns-in_err-add-clause-too_many
returns-in_err-add-clause-too_many c =
    let p = err_from_is_err_and c.from_residual.result c.from_residual.ensures.1 in
    rw (p.1, p.2) (λ many. turn_full c.args.tin.now c.args.frame c.args.triangle c.args.found.now.items c.in-Some.fault
    c.args.most c.requires.before
    (subst (λ (o : Option Fault). IsTurnFault c.args.tin.now c.args.frame c.args.triangle o) c.in-Some.is
    c.turn_fault.ensures) (c.in_err-add.ensures.many many))

pub returns-in_ok-add-clause-after : goal.returns-in_ok-add-clause-after
returns-in_ok-add-clause-after c = turn_added c.args.tin.now c.args.frame c.args.triangle c.args.found.now.items
    c.add.new.found.items c.in-Some.fault c.requires.before
    (subst (λ (o : Option Fault). IsTurnFault c.args.tin.now c.args.frame c.args.triangle o) c.in-Some.is
    c.turn_fault.ensures) c.in_ok-add.ensures.items

pub returns-in_default-clause-after : goal.returns-in_default-clause-after
returns-in_default-clause-after c = turn_fine c.args.tin.now c.args.frame c.args.triangle c.args.found.now.items
    c.requires.before c.in_default.ensures
