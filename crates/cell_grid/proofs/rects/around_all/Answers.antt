-- Answers to the goals of `around_all` in src/rects.rt.
use Rattle.cell_grid.proofs.Spans.{first_next}
use Rattle.cell_grid.proofs.rects.around_all.Goals as goal

pub loop-rect-preserved : goal.loop-rect-preserved
loop-rect-preserved c = first_next c.args.boxes.now c.loop-rect.rect-index c.loop-rect.all c.with_box-all.result
    c.loop-rect-test.true c.requires.span c.loop-rect.invariant c.with_box-all.ensures
