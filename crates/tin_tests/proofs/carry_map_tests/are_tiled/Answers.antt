-- Answers to the goals of `are_tiled` in src/carry_map_tests.rt.
use Rattle.std.proofs.Common.{refl, arith}
use Rattle.sheet_pieces.proofs.SheetPaths.{no_row}
use Rattle.tin_tests.proofs.PathTiles.{tiled_more}
use Rattle.tin_tests.proofs.carry_map_tests.are_tiled.Goals as goal

pub loop-row-preserved : goal.loop-row-preserved
loop-row-preserved c = tiled_more c.args.rows.now c.loop-row.row-index c.loop-row.first no_row (omega arith)
    c.loop-row.invariant (c.if-not-is_path_from.ensures refl)
