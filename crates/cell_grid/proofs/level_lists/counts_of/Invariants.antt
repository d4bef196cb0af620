-- The invariant of the loop of `counts_of` in src/level_lists.rt.
use Rattle.std.proofs.Common.{◌≤◌, ◌<◌, ℕ, length, All, slice_index, slice_index_or}
use Rattle.plane_base.specs.declared.shapes.Rect.{Rect}
use Rattle.cell_grid.specs.InsideSizes.{level_of, AreOfLevels}
use Rattle.cell_grid.proofs.level_lists.counts_of.Given as goal

abbrev pub invariant-loop-rect : goal.invariant-loop-rect
invariant-loop-rect l =
    record {
      of_levels : AreOfLevels (length l.counts.items) l.boxes;
      few : length l.counts.items ≤ 32;
      some : (k : ℕ) (d : Rect) → k < l.rect-index
          → 0 < slice_index l.counts.items (level_of (slice_index_or l.boxes k d));
      counted : All (λ count. count ≤ l.rect-index) l.counts.items;
    }
