-- Answers to the goals of `step` in src/walks.rt.
use Rattle.std.proofs.Common.{arith, ◌+◌, length}
use Rattle.dxf_entities.specs.DrawingContents.{contents_of}
use Rattle.dxf_entities.proofs.ReadSizes.{grows_wider}
use Rattle.dxf_layer.proofs.walks.step.Goals as goal

pub returns-in-Reading-clause-grown : goal.returns-in-Reading-clause-grown
returns-in-Reading-clause-grown c =
    grows_wider 2 (length c.args.entity.now.pairs.now + 2) (contents_of c.args.drawing.now)
    (contents_of c.step_reading.new.drawing)
    c.step_reading.result c.step_reading.ensures.grown (omega arith)
