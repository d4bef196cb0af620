-- The invariant of the loop of `find_in_block` in src/searches.rt.
use Rattle.cell_grid.specs.InsideBlocks.{place_at}
use Rattle.cell_grid.specs.InsideSearches.{DoesFind, StandsBefore}
use Rattle.cell_grid.proofs.searches.find_in_block.Given as goal

abbrev pub invariant-loop-index : goal.invariant-loop-index
invariant-loop-index l = DoesFind l.boxes.boxes l.r (StandsBefore l.cells (place_at l.level l.block) l.index)
    l.initial.found.items l.found.items
