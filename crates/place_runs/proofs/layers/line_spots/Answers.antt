-- Answers to the goals of `line_spots` in src/layers.rt.
use Rattle.std.proofs.Common.{◌∙◌, ap}
use Rattle.place_runs.specs.InsideLayers.{line_spot}
use Rattle.place_runs.proofs.LayerPaths.PathSpots.{one_more_line}
use Rattle.place_runs.proofs.layers.line_spots.Goals as goal

pub loop-number-preserved : goal.loop-number-preserved
loop-number-preserved c =
    one_more_line c.args.places.now c.args.lines.now c.loop-number.number _ c.line_spot.result
    c.loop-number.spots.items c.push.new.self.items c.loop-number-test.true c.loop-number.invariant
    (c.line_spot.ensures ∙ ap (line_spot _) c.number_there.ensures) c.in_ok-push.ensures.items
