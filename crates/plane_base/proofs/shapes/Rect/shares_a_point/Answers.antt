-- Answers to the goals of `Rect::shares_a_point` in src/boxes.rt.
use Rattle.plane_base.proofs.Bounds.BoxLemmas.{shared_if}
use Rattle.plane_base.proofs.shapes.Rect.shares_a_point.Goals as goal

pub returns : goal.returns
returns c = shared_if c.args.self.now c.args.other.now c.is_apart_from.result c.requires.own c.requires.other
    c.is_apart_from.ensures
