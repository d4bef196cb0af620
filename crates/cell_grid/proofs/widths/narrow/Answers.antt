-- Answers to the goals of `narrow` in src/widths.rt.
use Rattle.std.proofs.Common.{arith}
use Rattle.cell_grid.proofs.LevelEntries.{same_none, same_set}
use Rattle.cell_grid.proofs.widths.narrow.Goals as goal

pub loop-number-init : goal.loop-number-init
loop-number-init c = same_none c.args.levels.now.items

pub loop-number-preserved : goal.loop-number-preserved
loop-number-preserved c =
    same_set c.args.levels.now.items c.loop-number.levels.items c.loop-number.number c.index.result.now
    c.fit_width-level.result c.loop-number.invariant (omega (arith, c.loop-number.invariant.count)) c.index.ensures
    c.fit_width-level.ensures
