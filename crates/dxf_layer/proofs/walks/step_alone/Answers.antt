-- Answers to the goals of `step_alone` in src/walks.rt.
use Rattle.std.proofs.Common.{◌≡◌, sym, Ok}
use Rattle.dxf_entities.specs.EntityViews.{entity_view}
use Rattle.dxf_entities.specs.Kinds.{upright, shapes_of}
use Rattle.dxf_entities.specs.DrawingContents.{contents_of}
use Rattle.dxf_layer.proofs.EntityWalks.WalkSteps.{alone_goes}
use Rattle.dxf_layer.proofs.walks.step_alone.Goals as goal

pub returns-clause-goes : goal.returns-clause-goes
returns-clause-goes c =
    let flat : upright c.args.source.now.bytes.now (entity_view c.args.entity.now) ≡ Ok tt =
    sym c.in_ok-check_upright.ensures in
    rw flat (alone_goes (shapes_of c.args.source.now.bytes.now c.args.source.now.how c.args.source.now.seed
    (entity_view c.args.entity.now)) (contents_of c.args.drawing.now) (contents_of c.read_alone.new.drawing)
    c.in_ok-read_alone.ensures.reads)
