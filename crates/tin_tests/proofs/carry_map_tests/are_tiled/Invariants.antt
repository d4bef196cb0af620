-- The invariant of the loop of `are_tiled` in src/carry_map_tests.rt.
use Rattle.std.proofs.Common.{take}
use Rattle.sheet_base.specs.Sheets.{AreTiled}
use Rattle.tin_tests.proofs.carry_map_tests.are_tiled.Given as goal

-- the paths so far follow each other up to this point
abbrev pub invariant-loop-row : goal.invariant-loop-row
invariant-loop-row l = AreTiled (take l.row-index l.rows) 0 l.first
