-- The invariant of the loop of `box_of_all` in src/boxes.rt.
use Rattle.tin_index.specs.Boxes.{IsRound}
use Rattle.tin_index.proofs.boxes.box_of_all.Given as goal

abbrev pub invariant-loop-place : goal.invariant-loop-place
invariant-loop-place l = IsRound l.tin l.place l.round
