-- The invariant of the loop of `list_overlaps` in src/searches.rt.
use Rattle.std.proofs.Common.{◌≤◌, vec_len}
use Rattle.tin_check.specs.Faults.{frame_rank}
use Rattle.tin_faults.specs.InsideProgress.{HasFaultsBefore, pair_key}
use Rattle.tin_faults.proofs.searches.list_overlaps.Given as goal

-- the faults of the pairs of the first triangles so far are listed
abbrev pub invariant-loop-first : goal.invariant-loop-first
invariant-loop-first l = HasFaultsBefore l.tin (pair_key (frame_rank l.frame) l.first 0) l.found.items
    × (vec_len l.found ≤ l.most)
