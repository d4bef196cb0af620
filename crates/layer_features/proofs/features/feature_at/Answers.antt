-- Answers to the goals of `feature_at` in src/features.rt.
use Rattle.std.proofs.Common.{◌<◌, length, sym, ◌∙◌, rules}
use Rattle.layer_features.proofs.InOrder.{feature_there}
use Rattle.layer_features.proofs.features.feature_at.Goals as goal

pub returns-then-has_place : goal.returns-then-has_place
returns-then-has_place c =
    let within : c.likely_number-likely.result < length c.args.features.now = search rules in
    sym (feature_there c.args.features.now 0 c.likely_number-likely.result c.args.at _ c.requires within
    (sym c.has_place.ensures ∙ c.if-has_place.true))
