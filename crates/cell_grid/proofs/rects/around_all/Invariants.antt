-- The invariant of the loop of `around_all` in src/rects.rt.
use Rattle.cell_grid.proofs.Spans.{IsAroundFirst}
use Rattle.cell_grid.proofs.rects.around_all.Given as goal

abbrev pub invariant-loop-rect : goal.invariant-loop-rect
invariant-loop-rect l = IsAroundFirst l.boxes l.rect-index l.all
