-- Answers to the goals of `read_alone` in src/kinds.rt.
use Rattle.std.proofs.Common.{arith, ◌+◌, length}
use Rattle.dxf_entities.specs.DrawingContents.{contents_of}
use Rattle.dxf_entities.proofs.ReadSizes.{grows_wider}
use Rattle.dxf_entities.proofs.kinds.read_alone.Goals as goal

pub returns-then-is_kind-clause-grown : goal.returns-then-is_kind-clause-grown
returns-then-is_kind-clause-grown c =
    grows_wider 2 (length c.args.entity.now.pairs.now + 2) (contents_of c.args.drawing.now)
    (contents_of c.read_point.new.drawing) c.read_point.result c.read_point.ensures.grown (omega arith)

pub returns-then-is_kind-2-clause-grown : goal.returns-then-is_kind-2-clause-grown
returns-then-is_kind-2-clause-grown c =
    grows_wider 2 (length c.args.entity.now.pairs.now + 2) (contents_of c.args.drawing.now)
    (contents_of c.read_line.new.drawing) c.read_line.result c.read_line.ensures.grown (omega arith)

pub returns-then-is_kind-3-clause-grown : goal.returns-then-is_kind-3-clause-grown
returns-then-is_kind-3-clause-grown c =
    grows_wider (length c.args.entity.now.pairs.now + 1) (length c.args.entity.now.pairs.now + 2)
    (contents_of c.args.drawing.now) (contents_of c.read_light.new.drawing) c.read_light.result
    c.read_light.ensures.grown
    (omega arith)

pub returns-then-is_kind-4-clause-grown : goal.returns-then-is_kind-4-clause-grown
returns-then-is_kind-4-clause-grown c =
    grows_wider 2 (length c.args.entity.now.pairs.now + 2) (contents_of c.args.drawing.now)
    (contents_of c.read_text.new.drawing) c.read_text.result c.read_text.ensures.grown (omega arith)

pub returns-else-is_kind-4-clause-grown : goal.returns-else-is_kind-4-clause-grown
returns-else-is_kind-4-clause-grown c =
    grows_wider 2 (length c.args.entity.now.pairs.now + 2) (contents_of c.args.drawing.now)
    (contents_of c.read_insert.new.drawing) c.read_insert.result c.read_insert.ensures.grown (omega arith)
