-- Answers to the goals of `rounded_grid` in src/grids.rt.
use Rattle.topo_check.proofs.Spans.{rounded_ordered, rounded_spans}
use Rattle.topo_check.proofs.grids.rounded_grid.Goals as goal

pub build-requires-clause-ordered : goal.build-requires-clause-ordered
build-requires-clause-ordered c = rw c.deref.ensures.value
    (rounded_ordered c.args.pieces.now c.rounded_boxes.new.boxes.items c.in_ok-rounded_boxes.ensures)

pub build-requires-clause-span : goal.build-requires-clause-span
build-requires-clause-span c = rw c.deref.ensures.value
    (rounded_spans c.args.pieces.now c.rounded_boxes.new.boxes.items c.requires.near c.in_ok-rounded_boxes.ensures)
