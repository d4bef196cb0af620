-- The invariant of the loop of `push_run` in src/runs.rt.
use Rattle.cert_check.proofs.RunLaws.{AreEndsBehind}
use Rattle.cert_check.proofs.runs.push_run.Given as goal

-- the images of the ends so far come after that of the first end
abbrev pub invariant-loop-triangle : goal.invariant-loop-triangle
invariant-loop-triangle l = AreEndsBehind l.tin l.way.a l.way.b
    (record { from = l.way.ends.from; to = l.way.ends.to }) l.front l.triangle-index l.fn.points.items l.points.items
    l.fn.heights l.heights
