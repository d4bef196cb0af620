-- Answers to the goals of `read_tins_are_within_limits` in src/laws.rt.
use Rattle.runs.proofs.ReadLimits.{read_tins_are_within_limits}
use Rattle.runs.proofs.laws.read_tins_are_within_limits.Goals as goal

pub returns : goal.returns
returns c = read_tins_are_within_limits
