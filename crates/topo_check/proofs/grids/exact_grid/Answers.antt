-- Answers to the goals of `exact_grid` in src/grids.rt.
use Rattle.topo_check.proofs.Spans.{exact_ordered, exact_spans}
use Rattle.topo_check.proofs.grids.exact_grid.Goals as goal

pub build-requires-clause-ordered : goal.build-requires-clause-ordered
build-requires-clause-ordered c = rw c.deref.ensures.value
    (exact_ordered c.args.tin.now c.args.pieces.now c.exact_boxes.new.boxes.items c.in_ok-exact_boxes.ensures)

pub build-requires-clause-span : goal.build-requires-clause-span
build-requires-clause-span c = rw c.deref.ensures.value
    (exact_spans c.args.tin.now c.args.pieces.now c.exact_boxes.new.boxes.items c.show_soundness.ensures.limits
    c.in_ok-exact_boxes.ensures)
