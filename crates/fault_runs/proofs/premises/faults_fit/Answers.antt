-- Answers to the goals of `faults_fit` in src/premises.rt.
use Rattle.std.proofs.Common.{◌∷◌, [], take, sym, subst}
use Rattle.std.specs.List.{AllByRecursion}
use Rattle.std.proofs.lemmas.List.{take_more}
use Rattle.plain_laws.proofs.Lists.{all_append}
use Rattle.fault_runs.specs.Laws.{IsFaultHeld}
use Rattle.fault_runs.proofs.premises.faults_fit.Goals as goal

pub loop-fault-preserved : goal.loop-fault-preserved
loop-fault-preserved c =
    subst (AllByRecursion IsFaultHeld)
    (sym (take_more c.args.faults.now c.loop-fault.fault-index _ c.loop-fault-test.true))
    (all_append IsFaultHeld (take c.loop-fault.fault-index c.args.faults.now) (_ ∷ []) c.loop-fault.invariant
    (c.fault_fits.ensures, tt))
