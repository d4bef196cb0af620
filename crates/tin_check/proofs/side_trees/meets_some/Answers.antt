-- Answers to the goals of `meets_some` in src/side_trees.rt.
use Rattle.std.proofs.Common.{refl}
use Rattle.tin_check.proofs.BorderLemmas.SideTrees.{more_meet}
use Rattle.tin_check.proofs.side_trees.meets_some.Goals as goal

pub loop-number-preserved : goal.loop-number-preserved
loop-number-preserved c = more_meet c.args.tin.now c.args.frame c.args.sides.now c.args.triangle c.args.first
    c.loop-number.number c.loop-number.invariant (c.if-not-does_meet.ensures refl)
