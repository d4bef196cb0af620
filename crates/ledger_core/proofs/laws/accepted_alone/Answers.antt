-- The answer to the goal of `accepted_alone` in src/laws.rt.
use Rattle.ledger_core.proofs.AcceptedCommands.{accepted-alone}
use Rattle.ledger_core.proofs.laws.accepted_alone.Goals as goal

pub returns : goal.returns
returns c = accepted-alone
