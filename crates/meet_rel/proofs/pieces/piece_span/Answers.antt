-- Answers to the goals of `piece_span` in src/pieces.rt.
use Rattle.std.proofs.Common.{sym, subst, ◌∙◌}
use Rattle.plane_base.specs.Plane.{IsNear}
use Rattle.plane_base.specs.declared.shapes.Pt.{Pt}
use Rattle.meet_rel.specs.Clips.{IsCut}
use Rattle.meet_rel.proofs.ClipEnds.{piece_ends}
use Rattle.meet_rel.proofs.pieces.piece_span.Goals as goal

pub own_span-requires-clause-differ : goal.own_span-requires-clause-differ
own_span-requires-clause-differ c = λ e. c.requires.differ (sym c.clip_of.ensures.a ∙ e ∙ c.clip_of.ensures.b)

pub returns-clause-points : goal.returns-clause-points
returns-clause-points c = λ part of r hr.
    let piece = c.args.piece.now in let clip = c.clip_of.result in let i = c.clip_of.ensures in let span =
    c.own_span.result in
    let ends = piece_ends c.args.tin.now piece clip part (record { a_is = i.a; b_is = i.b; tri_is = i.tri }) of in
    let cut : IsCut clip piece.a piece.b span.lo span.hi =
    subst (λ (b : Pt). IsCut clip piece.a b span.lo span.hi) i.b
    (subst (λ (a : Pt). IsCut clip a clip.b span.lo span.hi) i.a c.own_span.ensures.cut) in
    (λ m. cut.back r hr (ends.forth r hr m), λ m. ends.back r hr (cut.forth r hr m))

pub returns-clause-order : goal.returns-clause-order
returns-clause-order c = let cut = c.own_span.ensures.cut in cut.order

pub returns-clause-near : goal.returns-clause-near
returns-clause-near c =
    let i = c.clip_of.ensures in subst (λ (b : Pt). IsNear c.args.piece.now.a b) i.b
    (subst (λ (a : Pt). IsNear a c.clip_of.result.b) i.a i.proper.near_ab)
