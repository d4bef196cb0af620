-- Answers to the goals of `push_between` in src/texts.rt.
use Rattle.std.proofs.Common.{◌≡◌, ◌∙◌, ◌++◌, ◌+◌, ◌<◌, ap, arith, refl}
use Rattle.sheet_base.specs.PointHeights.{height_in}
use Rattle.sheet_base.specs.Segments.{point_at}
use Rattle.sheet_base.proofs.PositionLists.{position_at}
use Rattle.dxf_copies.specs.declared.copies.Copied.{Copied}
use Rattle.dxf_entities.specs.EntityViews.{entity_view}
use Rattle.dxf_copies.specs.Rendering.{copy_text, line_copy}
use Rattle.dxf_copies.proofs.CopyLists.{same_copy, line_more, lines_done}
use Rattle.dxf_copies.proofs.texts.push_between.Goals as goal

pub loop-number-preserved : goal.loop-number-preserved
loop-number-preserved c =
    let images = c.args.images.now in
    let loop = c.loop-number in
    let entity = entity_view c.args.entity.now in
    let last = c.saturating_sub-number-end.ensures in
    let less = c.loop-number-test.true in
    let within : loop.number + 1 < c.args.past = omega (arith, last, less) in
    let written : c.push_copy.new.out.items ≡ loop.out.items ++ copy_text c.args.bytes.now
    (line_copy (position_at images.points images.heights loop.number)
    (position_at images.points images.heights (loop.number + 1)) loop.handle) entity = c.in_ok-push_copy.ensures
    ∙ ap (λ (copied : Copied). loop.out.items ++ copy_text c.args.bytes.now copied entity)
    (same_copy _ _ (point_at images.points loop.number) (point_at images.points (loop.number + 1)) _ _
    (height_in images.heights loop.number) (height_in images.heights (loop.number + 1)) loop.handle
    (ap (λ points. point_at points loop.number) c.points.ensures)
    (ap (λ points. point_at points (loop.number + 1)) c.points-in-loop-number.ensures)
    (c.at.ensures ∙ ap (λ heights. height_in heights loop.number) c.heights.ensures.heights)
    (c.at-in-loop-number.ensures
    ∙ ap (λ heights. height_in heights (loop.number + 1)) c.heights-in-loop-number.ensures.heights)) in (
      line_more c.args.bytes.now entity images.points images.heights loop.handle c.args.next loop.next loop.number
          c.args.past loop.out.items c.push_copy.new.out.items _ c.heights.ensures.kept.each within c.requires.past
          loop.invariant.1 loop.invariant.0 written,
      refl,
      omega (arith, loop.invariant.2),
    )

pub returns : goal.returns
returns c =
    let images = c.args.images.now in
    let last = c.saturating_sub-number-end.ensures in
    let over = c.loop-number-test.false in
    lines_done c.args.bytes.now (entity_view c.args.entity.now) images.points images.heights c.loop-number.handle
    c.loop-number.next c.loop-number.number c.args.past c.loop-number.out.items _
    (omega (arith, last, over)) c.loop-number.invariant.0
