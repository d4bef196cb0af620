-- Answers to the goals of `ring_spot` in src/sides.rt.
use Rattle.place_runs.proofs.PrintedMaps.SideSpots.{turn_words, point_words}
use Rattle.place_runs.proofs.sides.ring_spot.Goals as goal

pub returns-in-Turn : goal.returns-in-Turn
returns-in-Turn c texts =
    rw c.in-Turn.is (turn_words c.args.sheets.now c.args.images.now c.args.places.now texts c.in-Turn.layer
    c.in-Turn.path c.in-Turn.was c.in-Turn.now c.path_spot.result c.no_spot.result c.written_place.result
    c.path_spot.ensures c.no_spot.ensures c.written_place.ensures)

pub returns-in-Point : goal.returns-in-Point
returns-in-Point c texts =
    rw c.in-Point.is (point_words c.args.sheets.now c.args.images.now c.args.places.now texts c.in-Point.layer
    c.in-Point.path c.in-Point.at c.in-Point.was c.in-Point.now c.path_spot-in-Point.result
    c.path_spot-in-Point-2.result c.written_place-in-Point.result c.path_spot-in-Point.ensures
    c.path_spot-in-Point-2.ensures c.written_place-in-Point.ensures)
