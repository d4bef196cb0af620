-- Answers to the goals of `image_grid` in src/grids.rt.
use Rattle.std.proofs.Common.{rules}
use Rattle.topo_check.specs.InsideBoxes.{AreBoxesOf}
use Rattle.topo_check.specs.InsideImages.{IsImageBox}
use Rattle.topo_check.proofs.Spans.{image_ordered, image_spans}
use Rattle.topo_check.proofs.grids.image_grid.Goals as goal

pub build-requires-clause-ordered : goal.build-requires-clause-ordered
build-requires-clause-ordered c =
    let are : AreBoxesOf (IsImageBox c.args.tin.now) c.args.pieces.now c.image_boxes.new.boxes.items =
    c.in_ok-image_boxes.ensures (search rules) in
    rw c.deref.ensures.value (image_ordered c.args.tin.now c.args.pieces.now c.image_boxes.new.boxes.items are)

pub build-requires-clause-span : goal.build-requires-clause-span
build-requires-clause-span c =
    let are : AreBoxesOf (IsImageBox c.args.tin.now) c.args.pieces.now c.image_boxes.new.boxes.items =
    c.in_ok-image_boxes.ensures (search rules) in
    rw c.deref.ensures.value (image_spans c.args.tin.now c.args.pieces.now c.image_boxes.new.boxes.items
    c.show_soundness.ensures.limits are)
