-- The invariant of the loop of `pass_path` in src/paths.rt.
use Rattle.cert_check.proofs.PathLists.{IsPathImaged}
use Rattle.cert_check.proofs.paths.pass_path.Given as goal

-- the vertices so far have their runs, and the triangle has the next one
abbrev pub invariant-loop-number : goal.invariant-loop-number
invariant-loop-number l =
    IsPathImaged l.tin l.points l.heights l.track.path l.track.row l.fn.gathered.points.items l.gathered.points.items
    l.fn.gathered.heights l.gathered.heights l.fn.gathered.run.items l.gathered.run.items l.fn.gathered.rest.now
    l.gathered.rest.now l.number l.triangle
