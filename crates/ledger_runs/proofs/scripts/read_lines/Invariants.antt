-- The invariant and the measure of the loop of `read_lines` in src/scripts.rt.
use Rattle.std.proofs.Common.{length}
use Rattle.ledger_runs.proofs.LineSplits.{AreLinesRead}
use Rattle.ledger_runs.proofs.scripts.read_lines.Given as goal

abbrev pub invariant-loop-rest : goal.invariant-loop-rest
invariant-loop-rest l = AreLinesRead l.text l.rest l.number l.asked.items

abbrev pub decreases-loop-rest : goal.decreases-loop-rest
decreases-loop-rest l = length l.rest
