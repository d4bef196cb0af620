-- The answer to the goal of `decisions_stand` in src/laws.rt.
use Rattle.ledger_core.proofs.ClearRuns.{decisions-stand}
use Rattle.ledger_core.proofs.laws.decisions_stand.Goals as goal

pub returns : goal.returns
returns c = decisions-stand
