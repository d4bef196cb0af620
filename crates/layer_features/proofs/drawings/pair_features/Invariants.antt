-- The invariant of the loop of `pair_features` in src/drawings.rt.
use Rattle.std.proofs.Common.{◌≡◌, ◌++◌, drop}
use Rattle.layer_features.specs.DrawingFeatures.{pair_features}
use Rattle.layer_features.proofs.drawings.pair_features.Given as goal

abbrev pub invariant-loop-number : goal.invariant-loop-number
invariant-loop-number l = l.features.items ++ pair_features l.bytes (drop l.number l.pairs) ≡ pair_features l.bytes l.pairs
