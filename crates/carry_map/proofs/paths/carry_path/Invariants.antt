-- The invariant of the loop of `carry_path` in src/paths.rt.
use Rattle.carry_map.proofs.PathSteps.{IsPathCarried}
use Rattle.carry_map.proofs.paths.carry_path.Given as goal

-- the vertices so far are carried, and the next one has this image
abbrev pub invariant-loop-number : goal.invariant-loop-number
invariant-loop-number l =
    IsPathCarried l.index l.track.from.layer l.points l.heights l.track.from.path l.track.row l.most
    l.fn.gathered.points.items l.gathered.points.items l.fn.gathered.heights l.gathered.heights
    l.fn.gathered.run.items l.gathered.run.items l.fn.pieces.items l.pieces.items l.number l.image
