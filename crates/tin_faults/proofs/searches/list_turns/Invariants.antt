-- The invariant of the loop of `list_turns` in src/searches.rt.
use Rattle.std.proofs.Common.{◌≤◌, vec_len}
use Rattle.tin_check.specs.Faults.{frame_rank}
use Rattle.tin_faults.specs.InsideProgress.{HasFaultsBefore, triangle_key}
use Rattle.tin_faults.proofs.searches.list_turns.Given as goal

-- the faults of the triangles so far are listed
abbrev pub invariant-loop-triangle : goal.invariant-loop-triangle
invariant-loop-triangle l = HasFaultsBefore l.tin (triangle_key (frame_rank l.frame) l.triangle) l.found.items
    × (vec_len l.found ≤ l.most)
