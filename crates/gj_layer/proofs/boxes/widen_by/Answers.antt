-- Answers to the goals of `widen_by` in src/boxes.rt.
use Rattle.std.proofs.Common.{◌+◌, ◌-◌, [], ◌∷◌, take, drop, sym, ap, ◌∙◌}
use Rattle.sheet_base.specs.PointHeights.{Position}
use Rattle.sheet_base.specs.ImageFits.{positions_in}
use Rattle.sheet_base.proofs.PositionLists.{position_is, paired_more}
use Rattle.gj_layer.specs.InsideBoxes.{widened_by}
use Rattle.gj_layer.proofs.WrittenPaths.BoxLemmas.{widened_append}
use Rattle.gj_layer.proofs.boxes.widen_by.Goals as goal

pub loop-number-preserved : goal.loop-number-preserved
loop-number-preserved c =
    let images = c.args.images.now in
    let number = c.loop-number.number in
    let kept = c.heights.ensures.kept in
    let rest = take (c.args.past - (number + 1)) (drop (number + 1) (positions_in images)) in
    let image = position_is c.points.result.now images.points c.heights.result.now images.heights c.at.result
    number c.points.ensures c.heights.ensures.heights c.at.ensures in
    ap (λ bounds. widened_by bounds rest)
    (c.widen.ensures ∙ ap (λ (position : Position). widened_by c.loop-number.bounds (position ∷ [])) image)
    ∙ widened_append c.loop-number.bounds (_ ∷ []) rest
    ∙ ap (widened_by c.loop-number.bounds)
    (sym (paired_more images.points images.heights number c.args.past kept.each c.loop-number-test.true c.requires))
    ∙ c.loop-number.invariant
