-- The invariants of `line_count` in src/lines.rt.
use Rattle.std.proofs.Common.{length}
use Rattle.cert_check.proofs.LineLaws.{AreLinesSoFar}
use Rattle.cert_check.proofs.lines.line_count.Given as goal

-- the lines so far are those of this many lists
abbrev pub invariant-loop-rest : goal.invariant-loop-rest
invariant-loop-rest l = AreLinesSoFar l.text l.rest l.count

abbrev pub decreases-loop-rest : goal.decreases-loop-rest
decreases-loop-rest l = length l.rest
