-- The invariants of `read_line` in src/lines.rt.
use Rattle.std.proofs.Common.{length}
use Rattle.cert_check.proofs.LineNumbers.{IsReadTo}
use Rattle.cert_check.proofs.lines.read_line.Given as goal

-- the numbers so far, and those on the line of the rest, are the line of the text
abbrev pub invariant-loop-ended : goal.invariant-loop-ended
invariant-loop-ended l = IsReadTo l.text l.rest l.numbers.items

abbrev pub decreases-loop-ended : goal.decreases-loop-ended
decreases-loop-ended l = length l.rest
