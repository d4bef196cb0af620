-- Answers to the goals of `list_turns` in src/searches.rt.
use Rattle.std.proofs.Common.{arith}
use Rattle.tin_check.specs.Faults.{frame_rank}
use Rattle.tin_faults.proofs.Growth.{turns_done}
use Rattle.tin_faults.proofs.searches.list_turns.Goals as goal

pub returns-clause-after : goal.returns-clause-after
returns-clause-after c = turns_done c.args.tin.now (frame_rank c.args.frame) c.loop-triangle.triangle
    c.loop-triangle.found.items (omega arith) c.loop-triangle.invariant.0
