-- Answers to the goals of `list_overlaps_of` in src/searches.rt.
use Rattle.std.proofs.Common.{arith}
use Rattle.tin_faults.proofs.Growth.{past_next, to_second, seconds_done}
use Rattle.tin_faults.proofs.searches.list_overlaps_of.Goals as goal

pub list_overlap-requires-clause-before : goal.list_overlap-requires-clause-before
list_overlap-requires-clause-before c = to_second c.args.tin.now c.args.frame c.args.first c.loop-second.second-index
    c.args.seconds.now c.loop-second.found.items c.requires.in_order c.requires.others c.loop-second-test.true
    c.loop-second.invariant.0

pub loop-second-preserved : goal.loop-second-preserved
loop-second-preserved c = grind (arith, past_next)

pub returns-clause-after : goal.returns-clause-after
returns-clause-after c = seconds_done c.args.tin.now c.args.frame c.args.first c.loop-second.second-index
    c.args.seconds.now c.loop-second.found.items c.requires.in_order c.requires.others (omega arith)
    c.loop-second.invariant.0
