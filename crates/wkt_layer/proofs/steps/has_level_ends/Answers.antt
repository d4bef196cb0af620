-- Answers to the goals of `has_level_ends` in src/steps.rt.
use Rattle.std.proofs.Common.{◌≡◌, ◌-◌, ◌∙◌, length, ap, arith}
use Rattle.sheet_base.specs.PointHeights.{height_in}
use Rattle.sheet_base.specs.Rings.{is_same_height}
use Rattle.wkt_layer.proofs.SheetLaws.Sheets.{ends_level}
use Rattle.wkt_layer.proofs.steps.has_level_ends.Goals as goal

pub returns : goal.returns
returns c = λ done one more held.
    let last : c.saturating_sub-last.result ≡ length c.args.pass.now.points.items - 1 = omega arith in
    c.are_same_heights.ensures
    ∙ ap (λ h. is_same_height h c.at-2.result) c.at.ensures
    ∙ ap (λ h. is_same_height (height_in c.args.pass.now.heights c.args.pass.now.first) h) c.at-2.ensures
    ∙ ends_level c.args.pass.now.heights c.args.pass.now.points.items c.args.pass.now.first
    c.saturating_sub-last.result done one more held.heights held.points held.first last
