-- The invariant of the loop of `line_spots` in src/layers.rt.
use Rattle.std.proofs.Common.{◌≡◌, take}
use Rattle.place_runs.specs.InsideLayers.{line_spots}
use Rattle.place_runs.proofs.layers.line_spots.Given as goal

abbrev pub invariant-loop-number : goal.invariant-loop-number
invariant-loop-number l = l.spots.items ≡ line_spots 0 (take l.number l.places) l.lines
