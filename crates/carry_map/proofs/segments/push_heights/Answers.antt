-- Answers to the goals of `push_heights` in src/segments.rt.
use Rattle.carry_map.proofs.StepHeights.{param_at}
use Rattle.carry_map.proofs.segments.push_heights.Goals as goal

pub height_between-requires-clause-between : goal.height_between-requires-clause-between
height_between-requires-clause-between c =
    param_at c.args.steps.now c.loop-step.step-index c.step-item.result c.requires.between c.loop-step-test.true
    c.step-item.is
