-- The answer to the goal of `entered_once` in src/laws.rt.
use Rattle.ledger_core.proofs.EnteredRuns.{entered-once}
use Rattle.ledger_core.proofs.laws.entered_once.Goals as goal

pub returns : goal.returns
returns c = entered-once
