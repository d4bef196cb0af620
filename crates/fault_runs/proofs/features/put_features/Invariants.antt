-- The invariant of the loop of `put_features` in src/features.rt.
use Rattle.std.proofs.Common.{◌≡◌, ◌++◌, take}
use Rattle.fault_runs.specs.FaultsText.{features_text}
use Rattle.fault_runs.proofs.features.put_features.Given as goal

-- the faults so far are added
abbrev pub invariant-loop-number : goal.invariant-loop-number
invariant-loop-number l = l.out.items ≡ l.initial.out.items ++ features_text l.lines 0 (take l.number l.faults)
