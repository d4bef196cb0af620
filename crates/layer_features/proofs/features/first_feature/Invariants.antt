-- The invariant of the loop of `first_feature` in src/features.rt.
use Rattle.std.proofs.Common.{◌≡◌, drop}
use Rattle.layer_features.specs.Features.{feature_at}
use Rattle.layer_features.proofs.features.first_feature.Given as goal

abbrev pub invariant-loop-feature : goal.invariant-loop-feature
invariant-loop-feature l = feature_at (drop l.feature-index l.features) l.at ≡ feature_at l.features l.at
