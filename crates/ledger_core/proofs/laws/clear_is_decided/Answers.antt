-- The answer to the goal of `clear_is_decided` in src/laws.rt.
use Rattle.ledger_core.proofs.ClearRuns.{clear-is-decided}
use Rattle.ledger_core.proofs.laws.clear_is_decided.Goals as goal

pub returns : goal.returns
returns c = clear-is-decided
