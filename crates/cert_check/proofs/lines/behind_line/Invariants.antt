-- The invariants of `behind_line` in src/lines.rt.
use Rattle.std.proofs.Common.{length}
use Rattle.cert_check.proofs.LineLaws.{IsOnLine}
use Rattle.cert_check.proofs.lines.behind_line.Given as goal

-- the line of the text ends where that of the rest does
abbrev pub invariant-loop-ended : goal.invariant-loop-ended
invariant-loop-ended l = IsOnLine l.text l.rest

abbrev pub decreases-loop-ended : goal.decreases-loop-ended
decreases-loop-ended l = length l.rest
