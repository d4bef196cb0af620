-- The invariant of the loop of `even_levels` in src/level_lists.rt.
use Rattle.std.proofs.Common.{◌≡◌, ◌≤◌, ◌+◌, ◌*◌, ◌^◌, ◌<◌, length, All}
use Rattle.cell_grid.specs.LevelLists.{AreLaid}
use Rattle.cell_grid.proofs.level_lists.even_levels.Given as goal

abbrev pub invariant-loop-number : goal.invariant-loop-number
invariant-loop-number l =
    record {
      count : length l.levels.items ≡ l.number;
      laid : AreLaid l.levels.items;
      low : All (λ level. level.low ≡ l.low) l.levels.items;
      before : All (λ level. level.base + level.mask < l.base) l.levels.items;
      base : l.base ≤ l.number * 2 ^ 24;
    }
