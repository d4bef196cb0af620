-- The invariant of the loop of `faults_fit` in src/premises.rt.
use Rattle.std.proofs.Common.{take}
use Rattle.std.specs.List.{AllByRecursion}
use Rattle.fault_runs.specs.Laws.{IsFaultHeld}
use Rattle.fault_runs.proofs.premises.faults_fit.Given as goal

abbrev pub invariant-loop-fault : goal.invariant-loop-fault
invariant-loop-fault l = AllByRecursion IsFaultHeld (take l.fault-index l.faults)
