-- Answers to the goals of `feature_spots` in src/layers.rt.
use Rattle.std.proofs.Common.{◌∙◌, ap}
use Rattle.place_runs.specs.InsideLayers.{spot_in}
use Rattle.place_runs.proofs.LayerPaths.PathSpots.{one_more_spot}
use Rattle.place_runs.proofs.layers.feature_spots.Goals as goal

pub loop-at-preserved : goal.loop-at-preserved
loop-at-preserved c =
    one_more_spot c.args.features.now c.args.places.now c.loop-at.at-index _ c.spot_in.result
    c.loop-at.spots.items c.push.new.self.items c.loop-at-test.true c.loop-at.invariant
    (c.spot_in.ensures ∙ ap (spot_in _) c.feature_there.ensures) c.in_ok-push.ensures.items
