-- The invariant of the loop of `BoxList::of` in src/box_lists.rt.
use Rattle.std.proofs.Common.{◌≡◌, take}
use Rattle.cell_grid.proofs.OffsetBoxes.{placed}
use Rattle.cell_grid.proofs.box_lists.BoxList.of.Given as goal

-- those so far are the first of the boxes
abbrev pub invariant-loop-rect : goal.invariant-loop-rect
invariant-loop-rect l = placed l.around l.items.items ≡ take l.rect-index l.boxes
