-- The invariant of the loop of `feature_spots` in src/layers.rt.
use Rattle.std.proofs.Common.{◌≡◌, take, map}
use Rattle.place_runs.specs.InsideLayers.{spot_there}
use Rattle.place_runs.proofs.layers.feature_spots.Given as goal

abbrev pub invariant-loop-at : goal.invariant-loop-at
invariant-loop-at l = l.spots.items ≡ map (spot_there l.features) (take l.at-index l.places)
