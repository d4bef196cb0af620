-- The invariant of the loop of `next_line` in src/drawings.rt.
use Rattle.std.proofs.Common.{◌≡◌, drop}
use Rattle.layer_features.specs.DrawingFeatures.{next_line}
use Rattle.layer_features.proofs.drawings.next_line.Given as goal

abbrev pub invariant-loop-pair : goal.invariant-loop-pair
invariant-loop-pair l = next_line l.bytes (drop l.pair-index l.pairs) ≡ next_line l.bytes l.pairs
