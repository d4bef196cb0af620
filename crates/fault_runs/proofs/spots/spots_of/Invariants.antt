-- The invariant of the loop of `spots_of` in src/spots.rt.
use Rattle.std.proofs.Common.{◌≡◌, map, take}
use Rattle.fault_runs.specs.Spots.{spot_of}
use Rattle.fault_runs.proofs.spots.spots_of.Given as goal

-- those of the faults so far
abbrev pub invariant-loop-fault : goal.invariant-loop-fault
invariant-loop-fault l = l.spots.items ≡ map (spot_of l.tin) (take l.fault-index l.faults)
