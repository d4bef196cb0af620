-- Answers to the goals of `grid_of` in src/indexes.rt.
use Rattle.std.proofs.Common.{List, subst, sym, length}
use Rattle.plane_base.specs.declared.shapes.Rect.{Rect}
use Rattle.cell_grid.specs.Boxes.{AreOrdered, AreWithinSpan}
use Rattle.tin_index.proofs.SourceBoxes.{all_ordered, all_within}
use Rattle.tin_index.proofs.indexes.grid_of.Goals as goal

pub build-requires-clause-ordered : goal.build-requires-clause-ordered
build-requires-clause-ordered c =
    subst (λ (boxes : List Rect). AreOrdered boxes) (sym c.deref.ensures.value)
    (all_ordered c.args.tin.now (length c.args.tin.now.triangles) c.in_ok-boxes.boxes.items c.in_ok-boxes.ensures)

pub build-requires-clause-span : goal.build-requires-clause-span
build-requires-clause-span c =
    subst (λ (boxes : List Rect). AreWithinSpan boxes) (sym c.deref.ensures.value)
    (all_within c.args.tin.now c.in_ok-boxes.boxes.items c.show_soundness.ensures.limits c.in_ok-boxes.ensures)
