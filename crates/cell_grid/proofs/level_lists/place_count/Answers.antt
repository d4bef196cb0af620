-- Answers to the goals of `place_count` in src/level_lists.rt.
use Rattle.cell_grid.proofs.LevelEntries.{last_all}
use Rattle.cell_grid.proofs.level_lists.place_count.Goals as goal

pub returns-in-Some-clause-all : goal.returns-in-Some-clause-all
returns-in-Some-clause-all c = last_all c.args.levels.now c.in-Some.level.now c.requires c.in-Some.ensures.item.3.0
    c.in-Some.ensures.item.1
