-- Answers to the goals of `push_list` in src/image_lists.rt.
use Rattle.std.proofs.Common.{◌++◌, ap, ◌∙◌}
use Rattle.sheet_base.specs.PointHeights.{Position}
use Rattle.sheet_base.specs.ImageFits.{path_positions}
use Rattle.sheet_base.proofs.PositionLists.{position_is, list_is}
use Rattle.sheet_base.proofs.image_lists.push_list.Goals as goal

pub returns-in_ok-push_behind : goal.returns-in_ok-push_behind
returns-in_ok-push_behind g c =
    let images = c.args.images.now in
    let kept = c.heights.ensures.kept in
    let text = g.T.ImageText.text in
    let range = c.image_range-first.result in
    let image = position_is c.points.result.now images.points c.heights.result.now images.heights c.at.result
    range.0 c.points.ensures c.heights.ensures.heights c.at.ensures in
    list_is g.T.ImageText.separator text images.points images.heights range.0 range.1 c.args.out.now.items
    c.push_image.new.out.items c.push_behind.new.out.items
    (path_positions c.args.paths.now c.args.images.now c.args.path) kept.each c.if-first-past.true
    c.image_range-first.ensures.past c.image_range-first.ensures.part
    (c.in_ok-push_image.ensures
    ∙ ap (λ (position : Position). c.args.out.now.items ++ text position) image) c.in_ok-push_behind.ensures
