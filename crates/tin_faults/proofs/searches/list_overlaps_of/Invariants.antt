-- The invariant of the loop of `list_overlaps_of` in src/searches.rt.
use Rattle.std.proofs.Common.{◌≤◌, vec_len}
use Rattle.tin_check.specs.Faults.{frame_rank}
use Rattle.tin_faults.specs.InsideProgress.{HasFaultsBefore, pair_key}
use Rattle.tin_faults.proofs.Growth.{past}
use Rattle.tin_faults.proofs.searches.list_overlaps_of.Given as goal

-- the faults of the pairs up to the last second triangle so far are listed
abbrev pub invariant-loop-second : goal.invariant-loop-second
invariant-loop-second l =
    HasFaultsBefore l.tin (pair_key (frame_rank l.frame) l.first (past l.seconds l.second-index)) l.found.items
    × (vec_len l.found ≤ l.most)
