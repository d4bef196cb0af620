-- Answers to the goals of `counts_of` in src/level_lists.rt.
use Rattle.std.proofs.Common.{◌+◌, arith}
use Rattle.std.proofs.lemmas.Grind.{common_steps}
use Rattle.std.proofs.lemmas.List.{length-set}
use Rattle.cell_grid.proofs.UsedLevels.{counted_more}
use Rattle.cell_grid.proofs.level_lists.counts_of.Goals as goal

pub loop-rect-preserved : goal.loop-rect-preserved
loop-rect-preserved c =
    record {
      of_levels = rw (length-set c.loop-rect.counts.items c.level_of.result (c.index_mut.result.now + 1))
          c.loop-rect.invariant.of_levels;
      few = rw (length-set c.loop-rect.counts.items c.level_of.result (c.index_mut.result.now + 1))
          c.loop-rect.invariant.few;
      some = counted_more c.args.boxes.now c.loop-rect.counts.items c.loop-rect.rect-index c.level_of.result
          (c.index_mut.result.now + 1) _ c.loop-rect.invariant.of_levels c.loop-rect-test.true c.level_of.ensures.level
          (omega arith) c.loop-rect.invariant.some;
      counted = grind (arith, common_steps, c.loop-rect.invariant.counted);
    }
