-- The invariant of the loop of `boxes_of` in src/boxes.rt.
use Rattle.tin_index.specs.Boxes.{AreBoxesOf}
use Rattle.tin_index.proofs.boxes.boxes_of.Given as goal

abbrev pub invariant-loop-triangle : goal.invariant-loop-triangle
invariant-loop-triangle l = AreBoxesOf l.tin l.triangle l.boxes.items
