-- What the fields of a list of boxes keep. Only its own functions see them.
use Rattle.std.specs.Prelude.{◌^◌, pos, ◌<ℤ◌, map}
use Rattle.cell_grid.specs.Boxes.{AreOrdered}
use Rattle.cell_grid.specs.Around.{IsAround, corner_of}
use Rattle.cell_grid.specs.InsideOffsets.{PlacedBoxes, rect_of}
use Rattle.cell_grid.specs.declared.box_lists.BoxList.TheInside.{Inside}

abbrev pub view_of : Inside → PlacedBoxes
view_of list = record { around = list.around; boxes = map (rect_of (corner_of list.around)) list.items.items }

pub record HasInvariant (list : Inside) : Type 0 where
  pub ordered : AreOrdered (map (rect_of (corner_of list.around)) list.items.items)
  pub around : IsAround list.around (map (rect_of (corner_of list.around)) list.items.items)
  -- the far sides are numbers of the type of coordinates
  pub right : list.around.x1 <ℤ pos (2 ^ 63)
  pub top : list.around.y1 <ℤ pos (2 ^ 63)
