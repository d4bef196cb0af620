-- The invariant of the loop of `box_of_corners` in src/strays.rt.
use Rattle.std.proofs.Common.{◌∷◌, map, take}
use Rattle.run_notes.specs.InsideStrays.{IsLeastBox, spot_in}
use Rattle.run_notes.proofs.strays.box_of_corners.Given as goal

abbrev pub invariant-loop-corner : goal.invariant-loop-corner
invariant-loop-corner l = IsLeastBox (map (spot_in l.frame) (l.fn.first ∷ take l.corner-index l.rest)) l.found
