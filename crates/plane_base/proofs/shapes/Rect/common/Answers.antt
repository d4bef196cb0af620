-- Answers to the goals of `Rect::common` in src/boxes.rt.
use Rattle.std.proofs.Common.{rules}
use Rattle.plane_base.proofs.Bounds.BoxLemmas.{DoFit, same_rect, lesser_kept, greater_kept}
use Rattle.plane_base.proofs.shapes.Rect.common.Goals as goal

pub returns : goal.returns
returns c =
    let own : DoFit c.args.self.now =
    record { x0 = search rules; y0 = search rules; x1 = search rules; y1 = search rules } in
    let also : DoFit c.args.other.now =
    record { x0 = search rules; y0 = search rules; x1 = search rules; y1 = search rules } in
    let p = c.args.self.now in
    let q = c.args.other.now in
    same_rect _ _
    (greater_kept c.max.result p.x0 q.x0 (search rules) own.x0 also.x0 c.max.ensures.value)
    (greater_kept c.max-2.result p.y0 q.y0 (search rules) own.y0 also.y0 c.max-2.ensures.value)
    (lesser_kept c.min.result p.x1 q.x1 (search rules) own.x1 also.x1 c.min.ensures.value)
    (lesser_kept c.min-2.result p.y1 q.y1 (search rules) own.y1 also.y1 c.min-2.ensures.value)
