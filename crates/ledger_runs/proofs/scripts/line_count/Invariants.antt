-- The invariant and the measure of the loop of `line_count` in src/scripts.rt.
use Rattle.std.proofs.Common.{length}
use Rattle.ledger_runs.proofs.LineSplits.{IsCounted}
use Rattle.ledger_runs.proofs.scripts.line_count.Given as goal

abbrev pub invariant-loop-rest : goal.invariant-loop-rest
invariant-loop-rest l = IsCounted l.text l.rest l.count

abbrev pub decreases-loop-rest : goal.decreases-loop-rest
decreases-loop-rest l = length l.rest
