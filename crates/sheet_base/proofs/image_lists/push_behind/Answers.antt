-- Answers to the goals of `push_behind` in src/image_lists.rt.
use Rattle.std.proofs.Common.{◌++◌, ap, ◌∙◌}
use Rattle.sheet_base.specs.PointHeights.{Position}
use Rattle.sheet_base.proofs.PositionLists.{position_is, one_behind}
use Rattle.sheet_base.proofs.image_lists.push_behind.Goals as goal

pub loop-number-preserved : goal.loop-number-preserved
loop-number-preserved g c =
    let images = c.args.images.now in
    let kept = c.heights.ensures.kept in
    let text = g.T.ImageText.text in
    let image = position_is c.points.result.now images.points c.heights.result.now images.heights c.at.result
    c.loop-number.number c.points.ensures c.heights.ensures.heights c.at.ensures in
    one_behind g.T.ImageText.separator text images.points images.heights c.loop-number.number c.args.past
    c.loop-number.out.items c.push_separator.new.out.items c.push_image.new.out.items _ kept.each
    c.loop-number-test.true c.requires c.loop-number.invariant c.in_ok-push_separator.ensures
    (c.in_ok-push_image.ensures
    ∙ ap (λ (position : Position). c.push_separator.new.out.items ++ text position) image)
