-- The invariant of the loop of `level_count` in src/level_lists.rt.
use Rattle.std.proofs.Common.{◌≤◌, ◌<◌, ℕ, slice_index_or}
use Rattle.plane_base.specs.declared.shapes.Rect.{Rect}
use Rattle.cell_grid.specs.InsideSizes.{level_of}
use Rattle.cell_grid.proofs.level_lists.level_count.Given as goal

abbrev pub invariant-loop-rect : goal.invariant-loop-rect
invariant-loop-rect l =
    record {
      of_levels : (k : ℕ) (d : Rect) → k < l.rect-index → level_of (slice_index_or l.boxes k d) < l.count;
      few : l.count ≤ 32;
    }
