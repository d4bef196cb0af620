-- The invariant of the loop of `are_small` in src/cell_grid_tests.rt.
use Rattle.std.proofs.Common.{◌<◌, ℕ, slice_index_or}
use Rattle.plane_base.specs.declared.shapes.Rect.{Rect}
use Rattle.tin_tests.specs.SmallBoxes.{IsSmall}
use Rattle.tin_tests.proofs.cell_grid_tests.are_small.Given as goal

abbrev pub invariant-loop-rect : goal.invariant-loop-rect
invariant-loop-rect l = (k : ℕ) (d : Rect) → k < l.rect-index → IsSmall (slice_index_or l.boxes k d)
