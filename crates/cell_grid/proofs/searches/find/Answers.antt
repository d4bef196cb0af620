-- Answers to the goals of `find` in src/searches.rt.
use Rattle.cell_grid.proofs.LevelFinds.{everywhere_found, block_found}
use Rattle.cell_grid.proofs.searches.find.Goals as goal

pub returns-then-count-level : goal.returns-then-count-level
returns-then-count-level c = everywhere_found c.args.boxes.now.boxes c.args.r.now c.args.cut.now c.args.level.now
    c.args.cells.now c.args.found.now.items c.find_everywhere.new.found.items c.in_ok-find_everywhere.ensures

pub returns : goal.returns
returns c =
    block_found c.args.boxes.now.boxes c.args.r.now c.args.cut.now c.args.level.now c.of-block.result c.args.cells.now
    c.args.found.now.items c.find_in_block.new.found.items c.requires.cut c.of-block.ensures
    c.in_ok-find_in_block.ensures
