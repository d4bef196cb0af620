-- Answers to the goals of `Rect::is_apart_from` in src/boxes.rt.
use Rattle.std.proofs.Common.{rules}
use Rattle.plane_base.proofs.Bounds.BoxLemmas.{DoFit, apart_kept}
use Rattle.plane_base.proofs.shapes.Rect.is_apart_from.Goals as goal

pub returns : goal.returns
returns c =
    let own : DoFit c.args.self.now =
    record { x0 = search rules; y0 = search rules; x1 = search rules; y1 = search rules } in
    let also : DoFit c.args.other.now =
    record { x0 = search rules; y0 = search rules; x1 = search rules; y1 = search rules } in
    let p = c.args.self.now in
    let q = c.args.other.now in
    apart_kept p q own also c.are_spans_apart-2.result c.if-are_spans_apart.ensures c.are_spans_apart-2.ensures
